use Rattle.std.proofs.Common.{◌≡◌, take}
use Rattle.std.specs.List.{flat_map}
use Rattle.type_hierarchy.specs.Gathered.{gathered}
use Rattle.type_hierarchy.specs.ValueNames.{in_typedef}
use Rattle.type_tables.proofs.value_names.types.+gather_typedefs.Given as goal

abbrev pub invariant-loop-of : goal.invariant-loop-of
invariant-loop-of l = l.into ≡ gathered l.means l.initial.into (flat_map in_typedef (take l.of-index l.types))
