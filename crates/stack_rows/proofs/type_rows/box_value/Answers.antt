use Rattle.std.proofs.Common.{◌∙◌, ap}
use Rattle.type_hierarchy.specs.Stack.{boxed_of}
use Rattle.stack_rows.proofs.Growing.{means_kept}
use Rattle.stack_rows.proofs.RowParts.{to_means, always_means}
use Rattle.stack_rows.proofs.type_rows.box_value.Goals as goal

pub returns-clause-ok : goal.returns-clause-ok
returns-clause-ok c =
    let n = c.in_ok-t.ensures.ok in
    let o = c.in_ok-object.ensures.ok in
    c.plain.ensures c.boxed_of.new.w.nodes _ _
    (to_means _ _ _ (means_kept _ _ _ _ c.in_ok-object.ensures.stays.nodes n.value), tt)
    (always_means _ _ _ (record { within = o.within; is = o.is ∙ ap boxed_of n.key.term }), tt)
