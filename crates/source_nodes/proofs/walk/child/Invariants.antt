use Rattle.std.proofs.Common.{length}
use Rattle.source_nodes.proofs.Walks.{Asks, child_nodes}
use Rattle.source_nodes.proofs.walk.child.Given as goal

abbrev pub invariant-loop-node : goal.invariant-loop-node
invariant-loop-node l = Asks (child_nodes l.production) (child_nodes l.production) l.nodes l.left

abbrev pub decreases-loop-node : goal.decreases-loop-node
decreases-loop-node l = length l.left
