use Rattle.std.proofs.Common.{arith, ◌∙◌, ◌∷◌, []}
use Rattle.class_notes.proofs.MakingLemmas.{pairs_begin, pairs_next, pairs_end}
use Rattle.class_notes.proofs.making.add_pairs.Goals as goal

pub loop-face-init : goal.loop-face-init
loop-face-init c = pairs_begin c.args.key.now c.args.pairs.now

pub loop-face-preserved : goal.loop-face-preserved
loop-face-preserved c =
    pairs_next c.args.key.now c.args.faces.now c.loop-face.face-index c.face-item.result c.args.pairs.now c.loop-face.pairs c.add.new.self _ c.loop-face-test.true c.face-item.is c.loop-face.invariant
    (λ i. (c.place.ensures ∙ c.id.ensures) i ∷ (c.place-in-loop-face.ensures ∙ c.id-in-loop-face.ensures) i ∷ []) c.in_ok-add.ensures

pub returns : goal.returns
returns c = pairs_end c.args.key.now c.args.faces.now c.loop-face.face-index c.args.pairs.now c.loop-face.pairs (omega arith) c.loop-face.invariant
