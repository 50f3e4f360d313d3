use Rattle.std.proofs.Common.{ap, refl}
use Rattle.code_flow.specs.Demands.{vector_of}
use Rattle.stack_rows.proofs.RowParts.{exactly_means}
use Rattle.stack_rows.proofs.primitive_rows.store_element_of.Goals as goal

pub returns-clause-ok : goal.returns-clause-ok
returns-clause-ok c =
    let ns = c.numeric_key.new.w.nodes in
    c.plain.ensures ns _ _ (record { within = c.in_ok-of.ensures.ok.within; is = ap vector_of c.in_ok-of.ensures.ok.term }, (record { within = tt; is = refl }, (exactly_means ns _ _ (record { within = c.numeric_stack-value.ensures.within _; is = c.numeric_stack-value.ensures.is ns }), tt))) tt
