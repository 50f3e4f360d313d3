use Rattle.stack_effects.proofs.Calling.{call_row_means}
use Rattle.stack_rows.proofs.Growing.{stays_on}
use Rattle.stack_effects.proofs.calls.called.Goals as goal

pub returns-in_err-pushed-clause-stays : goal.returns-in_err-pushed-clause-stays
returns-in_err-pushed-clause-stays c =
    stays_on _ _ _ c.in_ok-parts.ensures.stays (stays_on _ _ _ c.in_ok-operands.ensures.stays (stays_on _ _ _ c.in_ok-operands-2.ensures.stays c.in_err-pushed.ensures.stays))

pub returns-clause-ok : goal.returns-clause-ok
returns-clause-ok c =
    call_row_means c.args.w.now c.call_parts.new.w c.this_demands.new.w c.with_parameters.new.w c.pushed_by.new.w c.in_ok-parts.parts c.args.m.now c.args.constrained _ _ _ _
    c.in_ok-parts.ensures.stays c.in_ok-operands.ensures.stays c.in_ok-operands-2.ensures.stays c.in_ok-pushed.ensures.stays c.requires
    c.in_ok-parts.ensures.ok c.in_ok-operands.ensures.ok
    (λ os call this. rw c.as_slice.ensures at (c.in_ok-operands-2.ensures.ok c.args.m.now os call this))
    (λ call. c.in_ok-pushed.ensures.ok c.args.m.now call)
    (λ os qs asked given. c.made.ensures c.pushed_by.new.w.nodes os qs asked given)

pub returns-clause-stays : goal.returns-clause-stays
returns-clause-stays c =
    stays_on _ _ _ c.in_ok-parts.ensures.stays (stays_on _ _ _ c.in_ok-operands.ensures.stays (stays_on _ _ _ c.in_ok-operands-2.ensures.stays c.in_ok-pushed.ensures.stays))
