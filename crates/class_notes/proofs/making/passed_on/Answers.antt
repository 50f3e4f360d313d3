use Rattle.std.proofs.Common.{◌≡◌, subst, sym, slice_get, length, List, Some}
use Rattle.std.specs.List.{All, Contains}
use Rattle.type_hierarchy.specs.World.{hierarchy, type_at}
use Rattle.class_notes.specs.declared.note.Note.TheVariants.{Skipped, Checked}
use Rattle.class_notes.specs.declared.note.Open.{Open}
use Rattle.class_notes.specs.Opening.{AreStill, IsWithin}
use Rattle.class_model.proofs.Members.{nothing_in}
use Rattle.class_members.proofs.Worlds.{if_ok_more}
use Rattle.class_notes.proofs.MakingLemmas.{not_both, opens_within, passed_checked, passed_none}
use Rattle.class_notes.proofs.making.passed_on.Goals as goal

pub still_open-requires-clause-opens : goal.still_open-requires-clause-opens
still_open-requires-clause-opens c =
    let w = c.args.w.now in
    let e : slice_get c.args.notes.now.notes c.in-Some.parent.now ≡ Some (Some (Checked c.in-Some-Checked.opens)) = rw c.in-Some-Checked.field-0-is at c.in-Some-Checked.ensures.found in
    subst (All (IsWithin (length w.nodes))) (sym c.as_slice.ensures) (opens_within c.args.a.now (hierarchy w) w.nodes c.args.notes.now c.in-Some.parent.now c.in-Some-Checked.opens c.requires.knows e)

pub returns-in-Some-Checked-clause-ok : goal.returns-in-Some-Checked-clause-ok
returns-in-Some-Checked-clause-ok c =
    let w = c.args.w.now in
    let e : slice_get c.args.notes.now.notes c.in-Some.parent.now ≡ Some (Some (Checked c.in-Some-Checked.opens)) = rw c.in-Some-Checked.field-0-is at c.in-Some-Checked.ensures.found in
    rw c.in-Some.is
    (if_ok_more c.still_open.result
    (λ left s. passed_checked c.args.a.now (hierarchy w) w.nodes (type_at w c.args.key.now) c.args.notes.now c.in-Some.parent.now c.in-Some-Checked.opens left c.requires.knows
    (rw c.in-Some.is at c.requires.parent) e (subst (λ (l : List Open). AreStill c.args.a.now (hierarchy w) w.nodes (type_at w c.args.key.now) l left) c.as_slice.ensures s))
    c.still_open.ensures.ok)

pub returns-in-Some-Skipped-clause-ok : goal.returns-in-Some-Skipped-clause-ok
returns-in-Some-Skipped-clause-ok c =
    let e : slice_get c.args.notes.now.notes c.in-Some.parent.now ≡ Some (Some Skipped) = rw c.in-Some-Skipped.field-0-is at c.in-Some-Skipped.ensures.found in
    let k = rw c.in-Some.is at c.requires.checked in
    absurd (not_both k.1 e)

pub returns-in-None-noted-clause-ok : goal.returns-in-None-noted-clause-ok
returns-in-None-noted-clause-ok c =
    let k = rw c.in-Some.is at c.requires.checked in
    absurd (c.in-None-noted.ensures.none (Checked k.0) k.1)

pub returns-in-None-clause-ok : goal.returns-in-None-clause-ok
returns-in-None-clause-ok c =
    let w = c.args.w.now in
    rw c.in-None.is
    (passed_none c.args.a.now (hierarchy w) w.nodes (type_at w c.args.key.now) c.new-in-None.result (λ o d. nothing_in o (subst (λ (l : List Open). Contains l o) c.new-in-None.ensures d)))
