use Rattle.std.proofs.Common.{◌≡◌, ◌≤◌, ℕ, false, List, ◌++◌, length}
use Rattle.il_lexer.specs.Classes.{first_passes}
use Rattle.il_lexer.specs.Spelled.{IsGap}
use Rattle.source_nodes.specs.Gaps.{may_begin_gap}
use Rattle.source_nodes.proofs.GapLemmas.{Within}
use Rattle.source_nodes.proofs.values.gaps.behind_gap.Given as goal

abbrev pub invariant-loop-rest : goal.invariant-loop-rest
invariant-loop-rest l = record {
  passed : (gap after : List ℕ) → IsGap gap → first_passes may_begin_gap after ≡ false → l.fn.bytes ≡ gap ++ after → Within IsGap l.rest after;
  shorter : length l.rest ≤ length l.fn.bytes;
}

abbrev pub decreases-loop-rest : goal.decreases-loop-rest
decreases-loop-rest l = length l.rest
