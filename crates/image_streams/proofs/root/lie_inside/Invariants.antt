use Rattle.std.proofs.Common.{◌≡◌, ◌≤◌, ◌+◌, ℕ, List, length}
use Rattle.image_model.specs.Root.{flags_place}
use Rattle.image_streams.specs.Walks.{LieFrom, LieInside}
use Rattle.image_streams.proofs.root.lie_inside.Given as goal

-- those that are left lie inside exactly where all do
pub record IsLeft (metadata : List ℕ) (place left : ℕ) : Type 0 where
  pub whole : LieFrom metadata place left → LieInside metadata
  pub part : LieInside metadata → LieFrom metadata place left
  pub within : place ≤ length metadata

abbrev pub invariant-loop-left : goal.invariant-loop-left
invariant-loop-left l = IsLeft l.metadata l.place l.left

abbrev pub decreases-loop-left : goal.decreases-loop-left
decreases-loop-left l = l.left
