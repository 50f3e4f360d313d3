-- The classes among types in a type of some path, which is empty at the top.
use Rattle.std.specs.Prelude.{List, [], length, Option, None, Some}
use Rattle.std.specs.List.{filter}
use Rattle.type_terms.specs.declared.name.TypeId.{TypeId}
use Rattle.assembly_tree.specs.declared.typedef.TypeDef.{TypeDef}
use Rattle.assembly_tree.specs.declared.typedef.TypeDef.TheViews.{out-TypeDef}
use Rattle.class_model.specs.declared.row.Row.{Row}
use Rattle.class_model.specs.Classes.{is_class, rows_from}

abbrev pub path_in : Option (List TypeId) → List TypeId
path_in None = []
path_in (Some path) = path

abbrev pub row_at : List TypeId → TypeDef → Row
row_at path t = record { path = path; flags = (out-TypeDef t).flags; parameters = length (out-TypeDef t).generics }

abbrev pub classes_in : List TypeId → List TypeDef → List Row
classes_in outer types = filter is_class (rows_from outer types)
