use Rattle.il_lexer.proofs.UnplacedLemmas.{reads-as-it-lexes}
use Rattle.il_lexer.proofs.laws.tokens_are_spellings.Goals as goal

pub returns : goal.returns
returns c = reads-as-it-lexes
