use Rattle.std.proofs.Common.{length}
use Rattle.source_model.specs.Forest.{leaf_at}
use Rattle.source_nodes.proofs.Walks.{Asks}
use Rattle.source_nodes.proofs.walk.leaf_at.Given as goal

abbrev pub invariant-loop-node : goal.invariant-loop-node
invariant-loop-node l = Asks (leaf_at l.before) (leaf_at l.k) l.nodes l.left

abbrev pub decreases-loop-node : goal.decreases-loop-node
decreases-loop-node l = length l.left
