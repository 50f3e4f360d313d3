use Rattle.std.proofs.Common.{◌≡◌, ◌-◌, drop, length}
use Rattle.std.specs.Prelude.{bytes_eq}
use Rattle.source_nodes.proofs.equality.are_equal.Given as goal

abbrev pub invariant-loop-k : goal.invariant-loop-k
invariant-loop-k l = bytes_eq (drop l.k l.one) (drop l.k l.other) ≡ bytes_eq l.one l.other

abbrev pub decreases-loop-k : goal.decreases-loop-k
decreases-loop-k l = length l.one - l.k
