use Rattle.std.proofs.Common.{◌≡◌, ◌≤◌, ℕ, List, ◌++◌, length}
use Rattle.il_lexer.specs.Spelled.{IsClosed}
use Rattle.source_nodes.proofs.GapLemmas.{Within}
use Rattle.source_nodes.proofs.values.gaps.behind_block.Given as goal

abbrev pub invariant-loop-rest : goal.invariant-loop-rest
invariant-loop-rest l = record {
  passed : (text after : List ℕ) → IsClosed text → l.fn.bytes ≡ text ++ after → Within IsClosed l.rest after;
  shorter : length l.rest ≤ length l.fn.bytes;
}

abbrev pub decreases-loop-rest : goal.decreases-loop-rest
decreases-loop-rest l = length l.rest
