use Rattle.std.proofs.Common.{◌≡◌, ◌++◌, length, reverse}
use Rattle.image_trees.proofs.lists.turned.Given as goal

abbrev pub invariant-loop-item : goal.invariant-loop-item
invariant-loop-item g l = l.turned ++ reverse l.left ≡ reverse l.fn.list

abbrev pub decreases-loop-item : goal.decreases-loop-item
decreases-loop-item g l = length l.left
