use Rattle.std.proofs.Common.{◌≡◌, take}
use Rattle.std.specs.List.{flat_map}
use Rattle.tree_names.specs.Looking.{seen_all}
use Rattle.tree_names.proofs.named.ItemsNamed.show.Given as goal

abbrev pub invariant-loop-item : goal.invariant-loop-item
invariant-loop-item g l = l.to ≡ seen_all g.L.Looks.seen l.initial.to (flat_map g.T.Named.names (take l.item-index l.item-items))
