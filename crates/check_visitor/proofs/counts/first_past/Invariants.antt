use Rattle.std.proofs.Common.{length}
use Rattle.check_visitor.proofs.CountLemmas.{behind}
use Rattle.source_syntax.proofs.Stepping.{Steps}
use Rattle.check_visitor.proofs.counts.first_past.Given as goal

abbrev pub invariant-loop-node : goal.invariant-loop-node
invariant-loop-node l = Steps (behind l.production l.more) (behind l.production l.skip) l.nodes l.left

abbrev pub decreases-loop-node : goal.decreases-loop-node
decreases-loop-node l = length l.left
