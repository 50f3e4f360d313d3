use Rattle.std.proofs.Common.{◌≡◌, take}
use Rattle.std.specs.List.{flat_map}
use Rattle.tree_names.specs.Looking.{seen_all}
use Rattle.tree_names.specs.Named.{names_in_typedef}
use Rattle.tree_names.proofs.named.types.+show_typedefs.Given as goal

abbrev pub invariant-loop-of : goal.invariant-loop-of
invariant-loop-of g l = l.to ≡ seen_all g.L.Looks.seen l.initial.to (flat_map names_in_typedef (take l.of-index l.types))
