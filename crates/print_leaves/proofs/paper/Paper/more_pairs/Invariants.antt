use Rattle.std.proofs.Common.{◌≡◌, take}
use Rattle.std.specs.List.{flat_map}
use Rattle.print_leaves.specs.Page.{added}
use Rattle.print_leaves.specs.Spaced.{spaced}
use Rattle.print_leaves.proofs.paper.Paper.more_pairs.Given as goal

abbrev pub invariant-loop-byte : goal.invariant-loop-byte
invariant-loop-byte l = l.self ≡ added l.initial.self (flat_map spaced (take l.byte-index l.bytes))
