use Rattle.std.proofs.Common.{◌≡◌, subst, sym, arith, slice_get, Some, List, Option}
use Rattle.class_notes.proofs.Worlds.{set_there}
use Rattle.class_notes.proofs.note.put_at.Goals as goal

pub returns-clause-there : goal.returns-clause-there
returns-clause-there g c =
    subst (λ (l : List (Option g.row.X.Denot)). slice_get l c.args.place ≡ Some (Some c.args.item)) (sym c.set.ensures)
    (set_there c.loop-list.list c.args.place c.args.item (omega (arith, c.len.ensures, c.loop-list-test.false)))
