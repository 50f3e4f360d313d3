use Rattle.std.proofs.Common.{◌≡◌, ℕ, ◌+◌, ◌-◌, length, slice_get, Some}
use Rattle.class_notes.proofs.note.put_at.Given as goal

-- nothing more is there
abbrev pub invariant-loop-list : goal.invariant-loop-list
invariant-loop-list g l = (k : ℕ) (x : g.row.X.Denot) → slice_get l.list k ≡ Some (Some x) → slice_get l.initial.list k ≡ Some (Some x)

abbrev pub decreases-loop-list : goal.decreases-loop-list
decreases-loop-list g l = l.place + 1 - length l.list
