-- Types, but for those that they nest, are what their rows give.
use Rattle.std.proofs.Common.{◌≡◌, ap, ◌∙◌, ℕ, ◌+◌, List, Option, None, Some}
use Rattle.std.specs.Prelude.{slice_index}
use Rattle.std.specs.List.{AllZip}
use Rattle.assembly_tree.specs.declared.assembly.Assembly.{Assembly}
use Rattle.assembly_tree.specs.declared.typedef.TypeDef.TheViews.{out-TypeDef}
use Rattle.body_codec.specs.Names.{NameMap}
use Rattle.pe_layout.specs.declared.parts.Kind.{Kind}
use Rattle.type_terms.specs.declared.term.Owner.{Owner}
use Rattle.image_tokens.specs.declared.references.References.{References}
use Rattle.image_members.specs.DeclaredMembers.{class_fields, class_methods}
use Rattle.image_rows.specs.InterfaceRows.{class_interfaces}
use Rattle.image_members.specs.Places.{all_fields, all_methods, class_properties, class_events}
use Rattle.image_members.specs.Pushing.{Tables}
use Rattle.image_rows.specs.TypeRows.{IsBase, base_of}
use Rattle.image_members.specs.declared.classes.Class.{Class}
use Rattle.image_model.specs.Columns.{type_extends}
use Rattle.image_model.specs.Reading.{ExtendsIs, IsField, IsMethod, IsProperty, IsEvent, IsTypeButNested}
use Rattle.image_model.specs.Rows.{fields_of, methods_of, properties_of, events_of}
use Rattle.laws_image_parts.specs.AtRows.{AtEach}
use Rattle.laws_image_parts.specs.PartsRead.{PartsAreRead}
use Rattle.laws_writable_trees.proofs.Parts.{IsFineClass, fine_classes, its_head}
use Rattle.laws_image_reading.specs.parts.Attributes.{AttributesNamed}
use Rattle.laws_image_reading.specs.parts.Generics.{GenericsNamed}
use Rattle.laws_image_reading.specs.parts.Held.{IsHeld}
use Rattle.laws_image_reading.specs.parts.Known.{KnowsRows}
use Rattle.laws_image_reading.proofs.parts.Attributes.{reader}
use Rattle.laws_image_reading.proofs.parts.Interfaces.{interfaces_are}
use Rattle.laws_image_reading.proofs.parts.Lists.{all_get, zip_items}
use Rattle.laws_image_reading.proofs.parts.Tokens.{IsReader, owner_is, owner_some}

-- what is known of the members of types, their attributes and their generic parameters
pub record KnowsMembers (a : Assembly) (classes : List Class) (image : List ℕ) (names : NameMap) : Type 0 where
  pub attributes : AttributesNamed a classes image names
  pub generics : GenericsNamed a classes image names
  pub fields : AtEach (IsField image names) 1 (all_fields a classes)
  pub methods : AtEach (IsMethod image names) 1 (all_methods a classes)
  pub properties : AtEach (λ type c. AllZip (IsProperty image names type) (properties_of image type) (class_properties c)) 2 classes
  pub events : AtEach (λ type c. AllZip (IsEvent image names type) (events_of image type) (class_events c)) 2 classes

module _ (parts : PartsAreRead) (a : Assembly) (classes : List Class) (r : References) (tables : Tables) (code id : List ℕ) (kind : Kind) (image : List ℕ) (names : NameMap)
    (held : IsHeld a classes r tables code id kind image names) (known : KnowsRows a classes r code image) (members : KnowsMembers a classes image names) where
  abbrev s : IsReader r image names
  s = reader a classes r tables code id kind image names held known

  base_is : (o : Option Owner) (cell index : ℕ) → IsBase r o index → cell ≡ index → ExtendsIs image names cell o
  base_is None cell index h is = is ∙ h
  base_is (Some o) cell index h is = (owner_some r image names s o cell index h is, owner_is r image names s o cell index h is)

  pub types_are : AtEach (λ type c. IsTypeButNested image names type (out-TypeDef c.of.now)) 2 classes
  types_are k c at =
      let type = 2 + k in
      let row = known.runs.type_rows k c at in
      let made = row.2 in
      let head = parts.class a classes r image type c known.heaps row in
      let fine = all_get (IsFineClass a) classes k c (fine_classes a classes held.filled.classes_are held.formed held.light) at in
      record {
        id = head.id;
        flags = head.flags;
        layout = parts.layout image type c (known.types.layouts k c at);
        generics = members.generics.types k c at;
        extends = base_is (base_of c) (type_extends image type) made.base made.base_is (ap (λ (cs : List ℕ). slice_index cs 3) made.are);
        implements = interfaces_are r image names s type (class_interfaces c) (known.types.interfaces k c at) (its_head a c fine).rising;
        fields = zip_items (IsField image names) (all_fields a classes) members.fields (fields_of image type) (class_fields c) (known.runs.fields k c at);
        methods = zip_items (IsMethod image names) (all_methods a classes) members.methods (methods_of image type) (class_methods c) (known.runs.methods k c at);
        properties = members.properties k c at;
        events = members.events k c at;
        attributes = members.attributes.types k c at;
      }
