use Rattle.std.proofs.Common.{length}
use Rattle.source_model.specs.Forest.{first_token}
use Rattle.source_nodes.specs.Walk.{IsForest}
use Rattle.source_nodes.proofs.Walks.{Asks}
use Rattle.lower_bodies.proofs.code_places.first_leaf.Given as goal

abbrev pub invariant-loop-node : goal.invariant-loop-node
invariant-loop-node l = IsForest l.nodes → Asks first_token first_token l.nodes l.left

abbrev pub decreases-loop-node : goal.decreases-loop-node
decreases-loop-node l = length l.left
