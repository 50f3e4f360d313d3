use Rattle.std.proofs.Common.{rules}
use Rattle.body_codec.proofs.Fronts.{none_short, none_single}
use Rattle.body_codec.proofs.decoding.opcode.op_at.Goals as goal

pub returns-in-empty-clause-none : goal.returns-in-empty-clause-none
returns-in-empty-clause-none c = none_short c.args.rest.now c.in-empty.len_below

pub returns-in-254-clause-none : goal.returns-in-254-clause-none
returns-in-254-clause-none c = none_single c.args.rest.now c.in-254.len_at_least c.in-254.len_below (search rules)
