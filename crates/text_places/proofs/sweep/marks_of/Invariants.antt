use Rattle.std.proofs.Common.{◌<◌, ◌≤◌, ◌≡◌, ℕ, List, Bool, length, slice_index}
use Rattle.text_places.specs.Standing.{AreMarked, GoesOn}
use Rattle.text_places.proofs.sweep.marks_of.Given as goal

pub record AtPlace (heap : List ℕ) (at next : ℕ) (marks : List Bool) : Type 0 where
  pub within : at ≤ next
  pub inside : next ≤ length heap
  pub between : (k : ℕ) → at ≤ k → k < next → GoesOn (slice_index heap k)
  pub begins : next < length heap → GoesOn (slice_index heap next) → ⊥
  pub marked : AreMarked heap at marks

abbrev pub decreases-loop-at : goal.decreases-loop-at
decreases-loop-at l = l.at

abbrev pub invariant-loop-at : goal.invariant-loop-at
invariant-loop-at l = AtPlace l.heap l.at l.next l.marks.items
