-- What is declared, in the order of its rows: what stands in `<Module>` first, and then what each type has (ECMA-335 II.22.37).
use Rattle.std.specs.Prelude.{List, ◌++◌, map}
use Rattle.std.specs.Borrow.{Bor}
use Rattle.std.specs.List.{flat_map}
use Rattle.assembly_tree.specs.declared.assembly.Assembly.{Assembly}
use Rattle.assembly_tree.specs.declared.members.Event.{Event}
use Rattle.assembly_tree.specs.declared.members.Field.{Field}
use Rattle.assembly_tree.specs.declared.members.Method.{Method}
use Rattle.assembly_tree.specs.declared.members.Param.{Param}
use Rattle.assembly_tree.specs.declared.members.Property.{Property}
use Rattle.assembly_tree.specs.declared.typedef.TypeDef.{TypeDef}
use Rattle.assembly_tree.specs.declared.typedef.TypeDef.TheViews.{out-TypeDef}
use Rattle.image_members.specs.DeclaredMembers.{class_fields, class_methods}
use Rattle.image_members.specs.declared.classes.Class.{Class}

-- what a list of references leads to
abbrev pub lent : {X : Type 0} → List (Bor X) → List X
lent {X} items = map (λ (x : Bor X). x.now) items

abbrev pub type_of : Class → TypeDef
type_of c = c.of.now

abbrev pub all_fields : Assembly → List Class → List Field
all_fields a classes = a.fields ++ flat_map class_fields classes

abbrev pub all_methods : Assembly → List Class → List Method
all_methods a classes = a.methods ++ flat_map class_methods classes

abbrev pub class_properties : Class → List Property
class_properties c = (out-TypeDef c.of.now).properties

abbrev pub class_events : Class → List Event
class_events c = (out-TypeDef c.of.now).events

abbrev pub params_of : Method → List Param
params_of m = m.params
