use Rattle.std.proofs.Common.{length}
use Rattle.elaborate.proofs.StandingLemmas.{Walked}
use Rattle.elaborate.proofs.standing.find_standing.Given as goal

abbrev pub invariant-loop-node : goal.invariant-loop-node
invariant-loop-node l = Walked l.first l.second l.nodes l.left l.found

abbrev pub decreases-loop-node : goal.decreases-loop-node
decreases-loop-node l = length l.left
