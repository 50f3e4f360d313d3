use Rattle.std.proofs.Common.{length, ◌-◌}
use Rattle.source_nodes.proofs.Walks.{Looked}
use Rattle.source_nodes.proofs.walk.each.Given as goal

abbrev pub invariant-loop-node : goal.invariant-loop-node
invariant-loop-node l = Looked l.nodes l.production l.at l.found

abbrev pub decreases-loop-node : goal.decreases-loop-node
decreases-loop-node l = length l.nodes - l.at
