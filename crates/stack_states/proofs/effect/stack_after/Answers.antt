use Rattle.std.proofs.Common.{◌≡◌, length, ◌∙◌, ◌-◌, ap, take, drop}
use Rattle.stack_states.proofs.Asks.{counted}
use Rattle.stack_states.proofs.Pushing.{after_is}
use Rattle.stack_states.proofs.Topmost.{top_operand, top_within}
use Rattle.stack_states.proofs.effect.stack_after.Goals as goal

pub push_all-requires-clause-first : goal.push_all-requires-clause-first
push_all-requires-clause-first c =
    c.operand-first.ensures.within _ (top_within _ _ c.args.stack.now c.as_slice-operands.result.now (c.as_slice-operands.ensures ∙ c.in_ok-operands.ensures) c.requires.stack)

pub push_all-requires-clause-second : goal.push_all-requires-clause-second
push_all-requires-clause-second c =
    c.operand-second.ensures.within _ (top_within _ _ c.args.stack.now c.as_slice-operands.result.now (c.as_slice-operands.ensures ∙ c.in_ok-operands.ensures) c.requires.stack)

pub returns-clause-ok : goal.returns-clause-ok
returns-clause-ok c =
    let ns = c.args.w.now.nodes in
    let r = c.args.row.now in
    let s = c.args.stack.now in
    let n = c.len-count.result in
    let top = c.as_slice-operands.result.now in
    let is : top ≡ drop (length s - n) s = c.as_slice-operands.ensures ∙ c.in_ok-operands.ensures in
    after_is ns c.push_all.new.w.nodes r s c.in_ok-after.after c.push_all.new.stack c.as_slice-pushed.result.now c.operand-first.result c.operand-second.result c.if-row.false
    (c.in_ok-after.ensures ∙ ap (λ m. take (length s - m) s) c.len-count.ensures) c.as_slice-pushed.ensures
    (counted ns s n (length r.operands) 0 c.operand-first.result c.len-count.ensures (top_operand ns n 0 s top c.operand-first.result is (c.operand-first.ensures.is ns)))
    (counted ns s n (length r.operands) 1 c.operand-second.result c.len-count.ensures (top_operand ns n 1 s top c.operand-second.result is (c.operand-second.ensures.is ns)))
    c.in_ok-push_all.ensures.ok
