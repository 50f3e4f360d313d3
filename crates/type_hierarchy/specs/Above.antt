-- The class above one in its core chain, as the code names it.
use Rattle.std.specs.Prelude.{List, Option, None, Some}
use Rattle.type_terms.specs.declared.name.Scope.{Scope}
use Rattle.type_terms.specs.declared.name.TypeId.{TypeId}
use Rattle.type_terms.specs.declared.name.TypeName.{TypeName}
use Rattle.type_hierarchy.specs.Names.{the_object, the_value_type, the_delegate}
use Rattle.type_hierarchy.specs.declared.core_types.Above.{Above}
use Rattle.type_hierarchy.specs.declared.core_types.Above.TheVariants.{Object, ValueType, Delegate}

abbrev pub path_of : Above → List TypeId
path_of Object = the_object
path_of ValueType = the_value_type
path_of Delegate = the_delegate

abbrev pub path_above : Option Above → Option (List TypeId)
path_above None = None
path_above (Some a) = Some (path_of a)

abbrev pub name_above : Scope → Option Above → Option TypeName
name_above core None = None
name_above core (Some a) = Some (record { scope = core; path = path_of a })
