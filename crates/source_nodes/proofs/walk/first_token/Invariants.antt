use Rattle.std.proofs.Common.{length}
use Rattle.source_model.specs.Forest.{first_token}
use Rattle.source_nodes.proofs.Walks.{Asks}
use Rattle.source_nodes.proofs.walk.first_token.Given as goal

abbrev pub invariant-loop-node : goal.invariant-loop-node
invariant-loop-node l = Asks first_token first_token l.nodes l.left

abbrev pub decreases-loop-node : goal.decreases-loop-node
decreases-loop-node l = length l.left
