use Rattle.std.proofs.Common.{arith, rules}
use Rattle.il_base.proofs.Signed.{signed-one, signed-four}
use Rattle.il_base.proofs.packed.spell_signed.Goals as goal

pub returns-then-n-lt64-clause-bytes : goal.returns-then-n-lt64-clause-bytes
returns-then-n-lt64-clause-bytes c = signed-one c.args.bytes.now c.args.n c.turn_left.result (omega arith) (search rules) (search rules) (search rules)

pub returns-clause-bytes : goal.returns-clause-bytes
returns-clause-bytes c = let e = signed-four c.args.bytes.now c.args.n c.turn_left-2.result (omega arith) c.requires.low c.requires.high (search rules) (search rules) in search rules
