use Rattle.il_lexer.proofs.LongestLemmas.{longest-where-it-ends}
use Rattle.il_lexer.proofs.laws.spellings_end.Goals as goal

pub returns : goal.returns
returns c = longest-where-it-ends
