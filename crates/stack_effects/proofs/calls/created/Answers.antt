use Rattle.std.proofs.Common.{[], sym, subst}
use Rattle.std.specs.List.{AllZip}
use Rattle.stack_rows.specs.RowMeanings.{MeansDemand}
use Rattle.stack_effects.proofs.Calling.{new_row_means}
use Rattle.stack_rows.proofs.Growing.{stays_on}
use Rattle.stack_effects.proofs.calls.created.Goals as goal

pub returns-clause-ok : goal.returns-clause-ok
returns-clause-ok c =
    let ns = c.call_parts.new.w.nodes in
    new_row_means c.args.w.now c.call_parts.new.w c.with_parameters.new.w c.st_of.new.w c.in_ok-parts.parts c.args.m.now _ c.in_ok-value.value _ _
    c.in_ok-parts.ensures.stays c.in_ok-operands.ensures.stays c.in_ok-value.ensures.stays
    c.in_ok-parts.ensures.ok
    (λ call. rw c.as_slice.ensures at (c.in_ok-operands.ensures.ok c.args.m.now [] call (subst (λ ds. AllZip (MeansDemand ns) ds []) (sym c.new.ensures) tt)))
    c.in_ok-value.ensures.ok c.in_ok-pushed.ensures
    (λ os qs asked given. c.made.ensures c.st_of.new.w.nodes os qs asked given)

pub returns-clause-stays : goal.returns-clause-stays
returns-clause-stays c =
    stays_on _ _ _ c.in_ok-parts.ensures.stays (stays_on _ _ _ c.in_ok-operands.ensures.stays c.in_ok-value.ensures.stays)
