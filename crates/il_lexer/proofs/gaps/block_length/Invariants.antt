use Rattle.std.proofs.Common.{◌≡◌, ◌≤◌, ◌-◌, ◌+◌, length, drop}
use Rattle.std.specs.Option.{option_map}
use Rattle.il_lexer.specs.Gaps.{block_length}
use Rattle.il_lexer.proofs.gaps.block_length.Given as goal

-- what was passed and the rest of the comment are the whole comment
abbrev pub invariant-loop-at : goal.invariant-loop-at
invariant-loop-at l = record {
  within : l.at ≤ length l.rest;
  whole : block_length l.rest ≡ option_map (λ n. l.at + n) (block_length (drop l.at l.rest));
}

abbrev pub decreases-loop-at : goal.decreases-loop-at
decreases-loop-at l = length l.rest - l.at
