use Rattle.std.proofs.Common.{ap}
use Rattle.type_hierarchy.specs.Stack.{ptr}
use Rattle.stack_rows.proofs.RowParts.{exactly_means, always_means}
use Rattle.stack_rows.proofs.primitive_rows.load_indirect.Goals as goal

pub returns-clause-ok : goal.returns-clause-ok
returns-clause-ok c =
    let ns = c.numeric_key.new.w.nodes in
    c.plain.ensures ns _ _ (exactly_means ns _ _ (record { within = c.in_ok-of.ensures.ok.within; is = ap ptr c.in_ok-of.ensures.ok.term }), tt) (always_means ns _ _ (record { within = c.numeric_stack-value.ensures.within _; is = c.numeric_stack-value.ensures.is ns }), tt)
