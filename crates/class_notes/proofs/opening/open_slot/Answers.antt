use Rattle.std.proofs.Common.{refl, inl, inr}
use Rattle.type_hierarchy.specs.World.{hierarchy, type_at}
use Rattle.class_members.proofs.Worlds.{on_ok_more}
use Rattle.class_notes.proofs.FillingLemmas.{not_when}
use Rattle.class_notes.proofs.OpeningLemmas.{no_slot, one_slot}
use Rattle.class_notes.proofs.opening.open_slot.Goals as goal

pub returns-then-not-is_slot-clause-ok : goal.returns-then-not-is_slot-clause-ok
returns-then-not-is_slot-clause-ok c = λ a h.
    let w = c.args.w.now in
    no_slot a (hierarchy w) (type_at w c.args.at.now) (type_at w c.args.face.now) c.args.method.now (record { face = c.args.face.now; place = c.args.place }) c.args.opens.now c.is_slot.result c.is_slot.ensures
    c.if-not-is_slot.true

pub returns-then-branch-clause-ok : goal.returns-then-branch-clause-ok
returns-then-branch-clause-ok c = λ a h. inr (inl ((c.in_ok-is_filled.ensures.ok a h).0 c.if-branch.true, refl))

pub returns-clause-ok : goal.returns-clause-ok
returns-clause-ok c = λ a h.
    let w = c.args.w.now in
    on_ok_more c.push.result
    (λ e. one_slot a (hierarchy w) (type_at w c.args.at.now) (type_at w c.args.face.now) c.args.method.now (record { face = c.args.face.now; place = c.args.place }) c.args.opens.now c.push.new.self c.is_slot.result
    c.is_slot.ensures c.if-not-is_slot.false (not_when (c.in_ok-is_filled.ensures.ok a h) c.if-branch.false) e)
    c.push.ensures.ok
