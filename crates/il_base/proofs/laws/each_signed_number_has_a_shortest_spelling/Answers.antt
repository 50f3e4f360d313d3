use Rattle.il_base.proofs.Signed.{signed-length, signed-spells, signed-shortest}
use Rattle.il_base.proofs.laws.each_signed_number_has_a_shortest_spelling.Goals as goal

pub returns-clause-spells : goal.returns-clause-spells
returns-clause-spells c = signed-spells

pub returns-clause-shortest : goal.returns-clause-shortest
returns-clause-shortest c = signed-shortest

pub returns-clause-length : goal.returns-clause-length
returns-clause-length c = signed-length
