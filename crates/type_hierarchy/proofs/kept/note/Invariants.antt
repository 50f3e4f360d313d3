use Rattle.std.proofs.Common.{◌≡◌, ℕ, ◌+◌, ◌-◌, length, slice_get, Some}
use Rattle.type_hierarchy.proofs.kept.note.Given as goal

-- nothing more is known
abbrev pub invariant-loop-parents : goal.invariant-loop-parents
invariant-loop-parents l = (k p : ℕ) → slice_get l.parents k ≡ Some (Some p) → slice_get l.initial.parents k ≡ Some (Some p)

abbrev pub decreases-loop-parents : goal.decreases-loop-parents
decreases-loop-parents l = l.id + 1 - length l.parents
