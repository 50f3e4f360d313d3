use Rattle.std.proofs.Common.{◌<◌, sym, subst}
use Rattle.opcode_table.proofs.Numbers.{tag-number, number-below}
use Rattle.opcode_table.proofs.table.number_of.Goals as goal

pub returns-clause-value : goal.returns-clause-value
returns-clause-value c = tag-number c.args.op

pub returns-clause-below : goal.returns-clause-below
returns-clause-below c = subst (λ n. n < 216) (sym (tag-number c.args.op)) (number-below c.args.op)
