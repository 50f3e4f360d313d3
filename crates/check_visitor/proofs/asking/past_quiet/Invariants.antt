use Rattle.std.proofs.Common.{length}
use Rattle.check_visitor.specs.Surroundings.{PassesQuiet}
use Rattle.check_visitor.proofs.asking.past_quiet.Given as goal

abbrev pub invariant-loop-left : goal.invariant-loop-left
invariant-loop-left g l = PassesQuiet (g.R.Rule.broken l.rule) l.nodes l.left

abbrev pub decreases-loop-left : goal.decreases-loop-left
decreases-loop-left g l = length l.left

abbrev pub invariant-loop-left-2 : goal.invariant-loop-left-2
invariant-loop-left-2 g l = PassesQuiet (g.R.Rule.broken l.rule) l.nodes l.left

abbrev pub decreases-loop-left-2 : goal.decreases-loop-left-2
decreases-loop-left-2 g l = length l.left
