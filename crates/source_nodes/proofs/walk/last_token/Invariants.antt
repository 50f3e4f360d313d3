use Rattle.std.proofs.Common.{length}
use Rattle.source_model.specs.Forest.{last_of, last_token, tokens_of}
use Rattle.source_nodes.proofs.Walks.{Asks}
use Rattle.source_nodes.proofs.walk.last_token.Given as goal

abbrev pub invariant-loop-node : goal.invariant-loop-node
invariant-loop-node l = Asks (λ f. last_of l.last (tokens_of f)) last_token l.nodes l.left

abbrev pub decreases-loop-node : goal.decreases-loop-node
decreases-loop-node l = length l.left
