-- Marks on rows of MemberRef, StandAloneSig, TypeSpec and MethodSpec (II.22.25, II.22.36, II.22.39, II.22.29).
use Rattle.std.specs.Prelude.{◌≡◌, ℕ, ◌+◌, ◌<◌, ◌==◌, ◌⊎◌, ◌↔◌, Bool, true, false, IsTrue, if◌then◌else◌, List, [], Contains, length, slice_index_or, sum_by}
use Rattle.image_model.specs.Naming.{IsToken}
use Rattle.image_model.specs.Rows.{count_of, HasRow}
use Rattle.method_states.specs.declared.row_marks.RowMarks.{RowMarks}

-- the tables whose rows have marks
abbrev pub IsKept : ℕ → Type 0
IsKept table = (table ≡ 0x0A) ⊎ (table ≡ 0x11) ⊎ (table ≡ 0x1B) ⊎ (table ≡ 0x2B)

-- one of four lists by the number of a table
abbrev pub pick : ℕ → (members locals types instances : List Bool) → List Bool
pick table members locals types instances =
    if table == 0x0A then members else (if table == 0x11 then locals else (if table == 0x1B then types else (if table == 0x2B then instances else [])))

-- the marks of the rows of a table, that of row 0, which there isn't, first
abbrev pub marks_in : RowMarks → ℕ → List Bool
marks_in m table = pick table m.members.items m.locals.items m.types.items m.instances.items

abbrev pub IsMarked : RowMarks → (table row : ℕ) → Type 0
IsMarked m table row = IsTrue (slice_index_or (marks_in m table) row false)

-- a row can be marked
abbrev pub HasPlace : RowMarks → (table row : ℕ) → Type 0
HasPlace m table row = (0 < row) × (row < length (marks_in m table))

-- how many marks aren't set
abbrev pub weight : Bool → ℕ
weight true = 0
weight false = 1

abbrev pub unset : List Bool → ℕ
unset marks = sum_by weight marks

abbrev pub left_in : RowMarks → ℕ
left_in m = unset m.members.items + unset m.locals.items + unset m.types.items + unset m.instances.items

-- each row of an image has a place
pub record HaveRoom (image : List ℕ) (m : RowMarks) : Type 0 where
  pub members : length (marks_in m 0x0A) ≡ count_of image 0x0A + 1
  pub locals : length (marks_in m 0x11) ≡ count_of image 0x11 + 1
  pub types : length (marks_in m 0x1B) ≡ count_of image 0x1B + 1
  pub instances : length (marks_in m 0x2B) ≡ count_of image 0x2B + 1

-- no mark of so many rows is set
pub record IsUnset (rows : ℕ) (marks : List Bool) : Type 0 where
  pub long : length marks ≡ rows + 1
  pub none : (row : ℕ) → IsTrue (slice_index_or marks row false) → ⊥

-- the mark of a row is set besides, where it has a place
pub record IsSet (old : List Bool) (row : ℕ) (new : List Bool) : Type 0 where
  pub long : length new ≡ length old
  pub each : (r : ℕ) → IsTrue (slice_index_or new r false) ↔ (IsTrue (slice_index_or old r false) ⊎ ((r ≡ row) × (0 < row) × (row < length old)))

-- the rows that tokens name are marked besides, where they have places
pub record MarkBesides (old : RowMarks) (tokens : List ℕ) (new : RowMarks) : Type 0 where
  pub room : (t : ℕ) → length (marks_in new t) ≡ length (marks_in old t)
  pub marked : (t r : ℕ) → IsMarked new t r ↔ (IsMarked old t r ⊎ ((token : ℕ) × Contains tokens token × IsToken token t r × HasPlace old t r))
