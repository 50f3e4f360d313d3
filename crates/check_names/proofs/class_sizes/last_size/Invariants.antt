use Rattle.std.proofs.Common.{length}
use Rattle.std.specs.Prelude.{Some}
use Rattle.check_names.proofs.ClassSizes.{ending}
use Rattle.source_syntax.proofs.Stepping.{Steps}
use Rattle.check_names.proofs.class_sizes.last_size.Given as goal

abbrev pub invariant-loop-node : goal.invariant-loop-node
invariant-loop-node l = Steps (ending l.last l.reader) (ending (Some 0) l.reader) l.class l.left

abbrev pub decreases-loop-node : goal.decreases-loop-node
decreases-loop-node l = length l.left
