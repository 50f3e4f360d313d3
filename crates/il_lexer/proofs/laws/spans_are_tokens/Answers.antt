use Rattle.il_lexer.proofs.LexLemmas.{spans_are}
use Rattle.il_lexer.proofs.laws.spans_are_tokens.Goals as goal

pub returns : goal.returns
returns c = spans_are
