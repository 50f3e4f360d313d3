use Rattle.std.proofs.Common.{length}
use Rattle.type_hierarchy.specs.World.{hierarchy}
use Rattle.stack_states.proofs.Asks.{counted, wrong_at}
use Rattle.stack_states.proofs.asking.is_wrong_at.Goals as goal

pub is_wrong-requires-clause-s : goal.is_wrong-requires-clause-s
is_wrong-requires-clause-s c = c.operand-value.ensures.within _ c.requires.stack

pub returns-clause-ok : goal.returns-clause-ok
returns-clause-ok c =
    let w = c.args.w.now in
    wrong_at (hierarchy w) w.nodes c.args.row.now c.args.stack.now c.args.k c.at-demand.result.now c.operand-value.result c.in_ok-wrong.wrong c.at-demand.ensures (counted w.nodes c.args.stack.now c.len.result (length c.args.row.now.operands) c.args.k c.operand-value.result c.len.ensures (c.operand-value.ensures.is w.nodes)) c.in_ok-wrong.ensures.ok
