use Rattle.std.proofs.Common.{◌+◌, [], ◌∷◌, ◌++◌, sym, ◌∙◌, ap, subst}
use Rattle.section_map.specs.Steps.{AreMerged}
use Rattle.section_map.proofs.Merging.{left_next, right_next}
use Rattle.section_map.proofs.merged.merged.Goals as goal

pub loop-i-preserved-then-is_left : goal.loop-i-preserved-then-is_left
loop-i-preserved-then-is_left c =
    let pushed = c.in_ok-push.ensures.ok ∙ ap (λ step. c.loop-i.steps ++ step ∷ []) c.lesser.ensures in
    subst (AreMerged c.args.left.now (c.loop-i.i + 1) c.args.right.now c.loop-i.j) (sym pushed)
    (left_next c.args.left.now c.loop-i.i c.args.right.now c.loop-i.j c.loop-i.steps c.requires.left c.loop-i.invariant (c.is_left.ensures.left c.if-is_left.true))

pub loop-i-preserved : goal.loop-i-preserved
loop-i-preserved c =
    let pushed = c.in_ok-push-2.ensures.ok ∙ ap (λ step. c.loop-i.steps ++ step ∷ []) c.lesser-else-is_left.ensures in
    subst (AreMerged c.args.left.now c.loop-i.i c.args.right.now (c.loop-i.j + 1)) (sym pushed)
    (right_next c.args.left.now c.loop-i.i c.args.right.now c.loop-i.j c.loop-i.steps c.requires.right c.loop-i.invariant (c.is_left.ensures.right c.if-is_left.false))
