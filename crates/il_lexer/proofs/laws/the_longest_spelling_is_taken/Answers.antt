use Rattle.il_lexer.proofs.LongestLemmas.{longest-spelling}
use Rattle.il_lexer.proofs.laws.the_longest_spelling_is_taken.Goals as goal

pub returns : goal.returns
returns c = longest-spelling
