use Rattle.std.proofs.Common.{◌≡◌, ℕ, ◌+◌, ◌≤◌, ◌<◌, List, Bool, length}
use Rattle.std.specs.Prelude.{IsTrue, ◌↔◌, slice_index_or, false}
use Rattle.image_model.specs.Rows.{count_of, HasRow}
use Rattle.row_demands.specs.Members.{run_begin}
use Rattle.row_demands.proofs.owners.Owners.begins.Given as goal

-- the beginnings of the rows so far are marked, and nothing else
pub record AreSoFar (image : List ℕ) (owners column members : ℕ) (upto : ℕ) (marks : List Bool) : Type 0 where
  pub long : length marks ≡ count_of image members + 2
  pub each : (member : ℕ) → member < length marks
      → IsTrue (slice_index_or marks member false) ↔ ((row : ℕ) × (0 < row) × (row ≤ upto) × (run_begin image owners column members row ≡ member))

abbrev pub invariant-loop-row : goal.invariant-loop-row
invariant-loop-row l = AreSoFar l.image l.self.table l.self.column l.self.members l.row l.marks.items
