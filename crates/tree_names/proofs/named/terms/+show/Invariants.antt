use Rattle.std.proofs.Common.{◌≡◌, take}
use Rattle.std.specs.List.{flat_map}
use Rattle.tree_names.specs.Looking.{seen_all}
use Rattle.tree_names.specs.Named.{names_in_type}
use Rattle.tree_names.proofs.named.terms.+show.Given as goal

abbrev pub invariant-show_types-loop-of : goal.invariant-show_types-loop-of
invariant-show_types-loop-of g l = l.to ≡ seen_all g.L.Looks.seen l.initial.to (flat_map names_in_type (take l.of-index l.types))
