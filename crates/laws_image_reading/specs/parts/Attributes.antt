-- Attributes are what their rows give (ECMA-335 II.22.10).
use Rattle.std.specs.Prelude.{ℕ, List}
use Rattle.assembly_tree.specs.declared.assembly.Assembly.{Assembly}
use Rattle.assembly_tree.specs.declared.members.Event.{Event}
use Rattle.assembly_tree.specs.declared.members.Field.{Field}
use Rattle.assembly_tree.specs.declared.members.Method.{Method}
use Rattle.assembly_tree.specs.declared.members.Param.{Param}
use Rattle.assembly_tree.specs.declared.members.Property.{Property}
use Rattle.body_codec.specs.Names.{NameMap}
use Rattle.image_members.specs.Lists.{class_attributes, params_in, properties_in, events_in}
use Rattle.image_members.specs.Places.{all_fields, all_methods}
use Rattle.image_members.specs.declared.classes.Class.{Class}
use Rattle.image_model.specs.Reading.{AttributesAre}
use Rattle.laws_image_parts.specs.AtRows.{AtEach}
use Rattle.laws_image_reading.specs.parts.Held.{WhereHeld}

-- those of all rows but of generic parameters
pub record AttributesNamed (a : Assembly) (classes : List Class) (image : List ℕ) (names : NameMap) : Type 0 where
  pub methods : AtEach (λ row (m : Method). AttributesAre image names 0x06 row m.attributes) 1 (all_methods a classes)
  pub fields : AtEach (λ row (f : Field). AttributesAre image names 0x04 row f.attributes) 1 (all_fields a classes)
  pub types : AtEach (λ row c. AttributesAre image names 0x02 row (class_attributes c)) 2 classes
  pub params : AtEach (λ row (p : Param). AttributesAre image names 0x08 row p.attributes) 1 (params_in a classes)
  pub module_row : AttributesAre image names 0x00 1 a.manifest.module_attributes
  pub properties : AtEach (λ row (p : Property). AttributesAre image names 0x17 row p.attributes) 1 (properties_in classes)
  pub events : AtEach (λ row (e : Event). AttributesAre image names 0x14 row e.attributes) 1 (events_in classes)
  pub assembly_row : AttributesAre image names 0x20 1 a.manifest.attributes

-- ---- the law

abbrev pub AttributesAreNamed : Type 0
AttributesAreNamed = WhereHeld AttributesNamed
