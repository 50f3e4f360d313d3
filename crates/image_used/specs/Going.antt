-- What holds while the used rows of reference tables are found, and at the end (II.22).
use Rattle.std.specs.Prelude.{◌≡◌, ℕ, ◌<◌, ◌≤◌, ◌⊎◌, ◌↔◌, List, length}
use Rattle.hash_places.specs.declared.slots.Slot.{Slot}
use Rattle.image_model.specs.Rows.{HasRow}
use Rattle.image_model.specs.Used.{IsReference, RowNames, IsUsed}
use Rattle.method_states.specs.Marks.{marks_in, IsKept, IsMarked, HasPlace}
use Rattle.method_states.specs.declared.row_marks.RowMarks.{RowMarks}
use Rattle.image_used.specs.Spreading.{Waits, IsReady}
use Rattle.image_used.specs.declared.spread.RowAt.{RowAt}

-- all that a row names, where it has a place, is marked
abbrev pub IsDone : List ℕ → RowMarks → (table row : ℕ) → Type 0
IsDone image marks table row = (t r : ℕ) → RowNames image table row t r → HasPlace marks t r → IsMarked marks t r

-- what is marked is used; what it names is marked too, unless it still waits
pub record IsGoing (image : List ℕ) (marks : RowMarks) (todo : List RowAt) (seen : List Slot) : Type 0 where
  pub ready : IsReady image marks seen
  pub used : (t r : ℕ) → IsMarked marks t r → IsUsed image t r
  pub waits : (t r : ℕ) → Waits todo t r → IsMarked marks t r
  pub done : (t r : ℕ) → IsMarked marks t r → Waits todo t r ⊎ IsDone image marks t r

-- marks are kept
pub record Keeps (old new : RowMarks) : Type 0 where
  pub room : (t : ℕ) → length (marks_in new t) ≡ length (marks_in old t)
  pub kept : (t r : ℕ) → IsMarked old t r → IsMarked new t r

-- marks are kept, and all that some rows name is marked
pub record Passed (image : List ℕ) (old new : RowMarks) (todo : List RowAt) (seen : List Slot) (Rows : ℕ → ℕ → Type 0) : Type 0 where
  pub going : IsGoing image new todo seen
  pub keeps : Keeps old new
  pub done : (t r : ℕ) → Rows t r → IsDone image new t r

-- ---- which rows

abbrev pub NoRows : ℕ → ℕ → Type 0
NoRows t r = ⊥

-- the first so many of a table
abbrev pub RowsTo : ℕ → ℕ → ℕ → ℕ → Type 0
RowsTo table count t r = (t ≡ table) × (0 < r) × (r ≤ count)

abbrev pub RowsOf : List ℕ → ℕ → ℕ → ℕ → Type 0
RowsOf image table t r = (t ≡ table) × HasRow image t r

-- those of a table, where it isn't one of references
abbrev pub OthersOf : List ℕ → ℕ → ℕ → ℕ → Type 0
OthersOf image table t r = (t ≡ table) × (IsReference t → ⊥) × HasRow image t r

-- those of all tables below one that aren't
abbrev pub OthersBelow : List ℕ → ℕ → ℕ → ℕ → Type 0
OthersBelow image count t r = (t < count) × (IsReference t → ⊥) × HasRow image t r

-- ---- at the end

-- the marked rows are those of these tables that are used
abbrev pub AreUsed : List ℕ → RowMarks → Type 0
AreUsed image marks = (table row : ℕ) → IsMarked marks table row ↔ (IsKept table × IsUsed image table row)
