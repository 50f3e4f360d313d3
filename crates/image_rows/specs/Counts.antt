-- How many rows the tables of what is declared have: each row is of 64 of the assembly's weight.
use Rattle.std.specs.Prelude.{ℕ, ◌+◌, ◌*◌, ◌≤◌, List, length}
use Rattle.std.specs.List.{flat_map}
use Rattle.assembly_tree.specs.Weight.{weight_of}
use Rattle.assembly_tree.specs.declared.assembly.Assembly.{Assembly}
use Rattle.image_members.specs.Classes.{AreClasses}
use Rattle.image_members.specs.Places.{all_fields, all_methods, class_properties, class_events, params_of}
use Rattle.image_members.specs.declared.classes.Class.{Class}

-- types, fields, methods, parameters, properties and events
abbrev pub declared_rows : Assembly → List Class → ℕ
declared_rows a classes =
    length classes + length (all_fields a classes) + length (all_methods a classes) + length (flat_map params_of (all_methods a classes))
    + length (flat_map class_properties classes) + length (flat_map class_events classes)

abbrev pub RowsAreFew : Type 0
RowsAreFew = (a : Assembly) (classes : List Class) → AreClasses 0 2 a.types classes → 64 * declared_rows a classes ≤ weight_of a
