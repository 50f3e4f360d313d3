use Rattle.std.proofs.Common.{length}
use Rattle.stack_states.proofs.Asks.{counted, mismatched_pair}
use Rattle.stack_states.proofs.asking.is_mismatched.Goals as goal

pub returns-in-Paired : goal.returns-in-Paired
returns-in-Paired c = λ w ns.
    let s = c.args.stack.now in
    let n = length c.args.row.now.operands in
    mismatched_pair w ns c.args.row.now s c.in-Paired.pairing c.operand-left.result c.operand-right.result c.clash.result c.in-Paired.is
    (counted ns s c.len-count.result n 0 c.operand-left.result c.len-count.ensures (c.operand-left.ensures.is ns))
    (counted ns s c.len-count.result n 1 c.operand-right.result c.len-count.ensures (c.operand-right.ensures.is ns)) (c.clash.ensures ns)
