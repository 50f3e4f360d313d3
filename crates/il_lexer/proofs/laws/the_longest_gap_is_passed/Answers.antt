use Rattle.il_lexer.proofs.SpelledGaps.{gap-is-longest}
use Rattle.il_lexer.proofs.laws.the_longest_gap_is_passed.Goals as goal

pub returns : goal.returns
returns c = gap-is-longest
