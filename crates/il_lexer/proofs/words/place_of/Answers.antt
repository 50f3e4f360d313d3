use Rattle.il_lexer.proofs.WordNumbers.{slot-below}
use Rattle.il_lexer.proofs.words.place_of.Goals as goal

pub returns-clause-below : goal.returns-clause-below
returns-clause-below c = slot-below c.slot_of.result
