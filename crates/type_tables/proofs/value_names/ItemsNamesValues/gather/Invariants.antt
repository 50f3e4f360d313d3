use Rattle.std.proofs.Common.{◌≡◌, take}
use Rattle.std.specs.List.{flat_map}
use Rattle.type_hierarchy.specs.Gathered.{gathered}
use Rattle.type_tables.proofs.value_names.ItemsNamesValues.gather.Given as goal

abbrev pub invariant-loop-item : goal.invariant-loop-item
invariant-loop-item g l = l.into ≡ gathered l.means l.initial.into (flat_map g.T.NamesValues.value_names (take l.item-index l.item-items))
