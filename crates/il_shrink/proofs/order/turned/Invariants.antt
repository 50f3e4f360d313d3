use Rattle.std.proofs.Common.{◌≡◌, ◌++◌, reverse, length}
use Rattle.il_shrink.proofs.order.turned.Given as goal

abbrev pub invariant-loop-item : goal.invariant-loop-item
invariant-loop-item g l = l.initial.list ≡ l.list ++ reverse l.turned

abbrev pub decreases-loop-item : goal.decreases-loop-item
decreases-loop-item g l = length l.list
