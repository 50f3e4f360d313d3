use Rattle.il_lexer.proofs.Outcomes.{one-outcome}
use Rattle.il_lexer.proofs.laws.lexes_in_one_way.Goals as goal

pub returns : goal.returns
returns c = one-outcome
