use Rattle.il_base.proofs.Signed.{signed-length, signed-spells, signed-shortest}
use Rattle.il_base.proofs.packed.push_packed_signed.Goals as goal

pub returns-clause-spells : goal.returns-clause-spells
returns-clause-spells c = signed-spells c.args.n c.requires.low c.requires.high

pub returns-clause-shortest : goal.returns-clause-shortest
returns-clause-shortest c = signed-shortest c.args.n c.requires.low c.requires.high

pub returns-clause-length : goal.returns-clause-length
returns-clause-length c = signed-length c.args.n
