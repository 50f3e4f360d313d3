use Rattle.std.proofs.Common.{length, Some, None}
use Rattle.type_hierarchy.specs.World.{hierarchy}
use Rattle.stack_states.proofs.Asks.{counted, referent_at, within_pool, unstored_some, unstored_none}
use Rattle.stack_states.proofs.asking.is_unstored.Goals as goal

pub referent-requires : goal.referent-requires
referent-requires c = within_pool c.pool.result.now c.args.w.now.nodes c.operand-pointer.result c.pool.ensures (c.operand-pointer.ensures.within _ c.requires.stack)

pub is_unassignable-requires-clause-s : goal.is_unassignable-requires-clause-s
is_unassignable-requires-clause-s c = c.operand-value.ensures.within _ c.requires.stack

pub returns-in_ok-fails-in-Some-clause-ok : goal.returns-in_ok-fails-in-Some-clause-ok
returns-in_ok-fails-in-Some-clause-ok c =
    let w = c.args.w.now in
    let s = c.args.stack.now in
    let n = length c.args.row.now.operands in
    unstored_some (hierarchy w) w.nodes c.args.row.now s c.operand-pointer.result c.operand-value.result c.in-Some.key c.in_ok-fails-in-Some.fails c.in-Stored.is
    (counted w.nodes s c.len-count.result n 0 c.operand-pointer.result c.len-count.ensures (c.operand-pointer.ensures.is w.nodes))
    (counted w.nodes s c.len-count.result n 1 c.operand-value.result c.len-count.ensures (c.operand-value.ensures.is w.nodes))
    (referent_at c.pool.result.now w.nodes c.operand-pointer.result c.referent.result (Some c.in-Some.key) c.pool.ensures c.in-Some.is c.referent.ensures)
    c.in_ok-fails-in-Some.ensures.ok

pub returns-in-None-clause-ok : goal.returns-in-None-clause-ok
returns-in-None-clause-ok c =
    let w = c.args.w.now in
    let s = c.args.stack.now in
    let n = length c.args.row.now.operands in
    unstored_none (hierarchy w) w.nodes c.args.row.now s c.operand-pointer.result c.operand-value.result c.in-Stored.is
    (counted w.nodes s c.len-count.result n 0 c.operand-pointer.result c.len-count.ensures (c.operand-pointer.ensures.is w.nodes))
    (counted w.nodes s c.len-count.result n 1 c.operand-value.result c.len-count.ensures (c.operand-value.ensures.is w.nodes))
    (referent_at c.pool.result.now w.nodes c.operand-pointer.result c.referent.result None c.pool.ensures c.in-None.is c.referent.ensures)
