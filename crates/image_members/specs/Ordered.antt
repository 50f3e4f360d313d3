-- What is declared, as lists of references in the order of rows (ECMA-335 II.22.37).
use Rattle.std.specs.Prelude.{◌≡◌, List, [], ◌∷◌, ◌++◌, map}
use Rattle.std.specs.List.{flat_map}
use Rattle.assembly_tree.specs.declared.assembly.Assembly.{Assembly}
use Rattle.assembly_tree.specs.declared.typedef.TypeDef.{TypeDef}
use Rattle.assembly_tree.specs.declared.typedef.TypeDef.TheViews.{out-TypeDef}
use Rattle.image_members.specs.Lists.{params_in, properties_in, events_in}
use Rattle.image_members.specs.Places.{lent, type_of, all_fields, all_methods, params_of}
use Rattle.image_members.specs.declared.classes.Class.{Class}
use Rattle.image_members.specs.declared.order.Ordered.{Ordered}

pub record IsOrdered (a : Assembly) (classes : List Class) (o : Ordered) : Type 0 where
  pub types : lent o.types ≡ map type_of classes
  pub fields : lent o.fields ≡ all_fields a classes
  pub methods : lent o.methods ≡ all_methods a classes
  pub params : lent o.params ≡ params_in a classes
  pub properties : lent o.properties ≡ properties_in classes
  pub events : lent o.events ≡ events_in classes

-- a type has been added, with what it has
pub record AddsMembers (of : TypeDef) (old new : Ordered) : Type 0 where
  pub types : lent new.types ≡ lent old.types ++ of ∷ []
  pub fields : lent new.fields ≡ lent old.fields ++ (out-TypeDef of).fields
  pub methods : lent new.methods ≡ lent old.methods ++ (out-TypeDef of).methods
  pub params : lent new.params ≡ lent old.params ++ flat_map params_of (out-TypeDef of).methods
  pub properties : lent new.properties ≡ lent old.properties ++ (out-TypeDef of).properties
  pub events : lent new.events ≡ lent old.events ++ (out-TypeDef of).events
