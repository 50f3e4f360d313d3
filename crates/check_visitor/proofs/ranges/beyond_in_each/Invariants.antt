use Rattle.std.proofs.Common.{length}
use Rattle.std.specs.Prelude.{None}
use Rattle.check_visitor.specs.NumberTests.{keeps_within}
use Rattle.check_visitor.proofs.RangeLemmas.{out_after}
use Rattle.source_syntax.proofs.Stepping.{Steps}
use Rattle.check_visitor.proofs.ranges.beyond_in_each.Given as goal

abbrev pub invariant-loop-node : goal.invariant-loop-node
invariant-loop-node l = Steps (out_after (keeps_within l.limit) l.production l.reader l.found) (out_after (keeps_within l.limit) l.production l.reader None) l.nodes l.left

abbrev pub decreases-loop-node : goal.decreases-loop-node
decreases-loop-node l = length l.left
