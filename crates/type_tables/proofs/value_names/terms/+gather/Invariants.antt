use Rattle.std.proofs.Common.{◌≡◌, take}
use Rattle.std.specs.List.{flat_map}
use Rattle.type_hierarchy.specs.Gathered.{gathered}
use Rattle.type_hierarchy.specs.ValueNames.{in_type}
use Rattle.type_tables.proofs.value_names.terms.+gather.Given as goal

abbrev pub invariant-gather_types-loop-of : goal.invariant-gather_types-loop-of
invariant-gather_types-loop-of l = l.into ≡ gathered l.means l.initial.into (flat_map in_type (take l.of-index l.types))
