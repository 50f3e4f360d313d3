use Rattle.std.proofs.Common.{length, ◌<◌, ◌^◌}
use Rattle.source_flags.proofs.FlagLemmas.{asked}
use Rattle.source_syntax.proofs.Stepping.{Steps}
use Rattle.source_flags.proofs.flag_rows.row_flags.Given as goal

abbrev pub invariant-loop-node : goal.invariant-loop-node
invariant-loop-node l =
    record {
      steps : Steps (asked l.reader l.row l.flags) (asked l.reader l.row 0) l.initial.left l.left;
      fits : l.flags < 2 ^ 32;
    }

abbrev pub decreases-loop-node : goal.decreases-loop-node
decreases-loop-node l = length l.left
