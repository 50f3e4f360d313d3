use Rattle.std.proofs.Common.{◌∙◌, subst, sym, ℕ, ◌+◌, List, take, arith}
use Rattle.std.specs.Option.{option_copied}
use Rattle.std.proofs.lemmas.List.{take_all}
use Rattle.class_notes.specs.Fresh.{AreFresh}
use Rattle.class_notes.proofs.FreshLemmas.{fresh_left, fresh_more, fresh_none}
use Rattle.class_notes.proofs.fresh.fresh_faces.Goals as goal
use Rattle.class_notes.proofs.fresh.fresh_faces.Goals.{then-not-is_passed+in_ok-push, else-not-is_passed}

pub loop-face-init : goal.loop-face-init
loop-face-init c = fresh_none c.args.pairs.now (option_copied c.args.parent) c.args.opens.now c.new-fresh.result c.new-fresh.ensures

pub loop-face-preserved : goal.loop-face-preserved
loop-face-preserved c =
    let o = option_copied c.args.parent in
    let k = c.loop-face.face-index in
    let low = c.loop-face-test.true in
    let v = c.loop-face.invariant in
    elim c.if-not-is_passed.branch [
      | then-not-is_passed+in_ok-push x ↦
          fresh_more c.args.pairs.now o c.args.opens.now c.args.faces.now k c.face-item.result low c.face-item.is c.loop-face.fresh v c.if-not-is_passed.fresh (x.fresh-is ∙ x.in_ok-push.ensures.ok)
      | else-not-is_passed x ↦
          subst (AreFresh c.args.pairs.now o c.args.opens.now (take (k + 1) c.args.faces.now)) (sym x.fresh-is)
          (fresh_left c.args.pairs.now o c.args.opens.now c.args.faces.now k c.face-item.result low c.face-item.is c.loop-face.fresh v (c.is_passed.ensures x.if-not-is_passed.false))
    ]

pub returns : goal.returns
returns c =
    subst (λ (l : List ℕ). AreFresh c.args.pairs.now (option_copied c.args.parent) c.args.opens.now l c.loop-face.fresh) (take_all c.loop-face.face-index c.args.faces.now (omega arith)) c.loop-face.invariant
