use Rattle.std.proofs.Common.{ap, sym, subst, ◌∙◌}
use Rattle.source_model.specs.Bodies.{code}
use Rattle.source_nodes.specs.Least.{least}
use Rattle.check_bodies.specs.Sizes.{AreOffsets}
use Rattle.check_bodies.proofs.ShortCodeLemmas.{near_enough}
use Rattle.check_bodies.proofs.bodies.branch_fault.Goals as goal

pub returns-then-is_short_code : goal.returns-then-is_short_code
returns-then-is_short_code c s n r m e are labels =
    ap least (sym (near_enough s n c.args.method.now c.args.code.now are (sym c.is_short_code.ensures ∙ c.if-is_short_code.true)))

pub returns : goal.returns
returns c s n r m e are labels =
    let f = n.below in
    let offsets = subst (λ xs. AreOffsets xs (code s n.around f)) (sym c.as_slice.ensures) (c.in_ok-offsets.ensures s n.around f r e are) in
    c.in_ok-first.ensures s n r m.bodies (labels, offsets) are
