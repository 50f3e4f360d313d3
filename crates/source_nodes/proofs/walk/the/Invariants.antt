use Rattle.std.proofs.Common.{length}
use Rattle.source_nodes.proofs.Walks.{Left}
use Rattle.source_nodes.proofs.walk.the.Given as goal

abbrev pub invariant-loop-node : goal.invariant-loop-node
invariant-loop-node l = Left l.nodes l.production l.left

abbrev pub decreases-loop-node : goal.decreases-loop-node
decreases-loop-node l = length l.left
