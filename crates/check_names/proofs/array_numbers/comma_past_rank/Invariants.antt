use Rattle.std.proofs.Common.{length}
use Rattle.check_names.proofs.ArrayLemmas.{past_rank}
use Rattle.source_syntax.proofs.Stepping.{Steps}
use Rattle.check_names.proofs.array_numbers.comma_past_rank.Given as goal

abbrev pub invariant-loop-node : goal.invariant-loop-node
invariant-loop-node l = Steps (past_rank l.more l.reader) (past_rank 31 l.reader) l.shape l.left

abbrev pub decreases-loop-node : goal.decreases-loop-node
decreases-loop-node l = length l.left
