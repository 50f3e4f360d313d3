use Rattle.std.proofs.Common.{length}
use Rattle.check_bodies.proofs.MethodWalks.{Walked}
use Rattle.check_bodies.proofs.method_walk.first_by_method.Given as goal

abbrev pub invariant-loop-node : goal.invariant-loop-node
invariant-loop-node g l = Walked (g.R.MethodRule.broken l.rule) l.reader l.nodes l.left l.found

abbrev pub decreases-loop-node : goal.decreases-loop-node
decreases-loop-node g l = length l.left
