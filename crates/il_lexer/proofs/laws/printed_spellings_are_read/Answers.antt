use Rattle.il_lexer.proofs.UnplacedLemmas.{printed-reads}
use Rattle.il_lexer.proofs.laws.printed_spellings_are_read.Goals as goal

pub returns : goal.returns
returns c = printed-reads
