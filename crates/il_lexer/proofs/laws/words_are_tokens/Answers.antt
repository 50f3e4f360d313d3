use Rattle.il_lexer.proofs.WordTokens.{word-token}
use Rattle.il_lexer.proofs.laws.words_are_tokens.Goals as goal

pub returns : goal.returns
returns c = word-token
