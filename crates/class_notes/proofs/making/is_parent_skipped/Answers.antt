use Rattle.std.proofs.Common.{◌≡◌, slice_get, Some}
use Rattle.class_notes.specs.declared.note.Note.TheVariants.{Skipped}
use Rattle.class_notes.proofs.making.is_parent_skipped.Goals as goal

pub returns-in-Some-Skipped-clause-skipped : goal.returns-in-Some-Skipped-clause-skipped
returns-in-Some-Skipped-clause-skipped c = λ t.
    let e : slice_get c.args.notes.now.notes c.in-Some.parent.now ≡ Some (Some Skipped) = rw c.in-Some-Skipped.field-0-is at c.in-Some-Skipped.ensures.found in
    rw c.in-Some.is e

pub returns-in-Some-Checked-clause-checked : goal.returns-in-Some-Checked-clause-checked
returns-in-Some-Checked-clause-checked c = λ t.
    let e = rw c.in-Some-Checked.field-0-is at c.in-Some-Checked.ensures.found in
    rw c.in-Some.is (_, e)

pub returns-in-None-noted-clause-checked : goal.returns-in-None-noted-clause-checked
returns-in-None-noted-clause-checked c = λ t.
    let k = rw c.in-Some.is at c.requires in
    absurd (c.in-None-noted.ensures.none k.0 k.1)
