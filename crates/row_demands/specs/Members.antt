-- What is asked of the rows that belong to one type, by the numbers of tables and columns (II.22).
use Rattle.std.specs.Prelude.{◌≡◌, ◌≢◌, ℕ, ◌+◌, ◌<◌, ◌≤◌, ◌==◌, ◌↔◌, if◌then◌else◌, List, [], Bool, IsTrue, false, codes, length, slice_index, slice_index_or}
use Rattle.heaps.specs.Content.{HasText}
use Rattle.metadata_tables.specs.Stream.{cell}
use Rattle.image_model.specs.Streams.{tables_of, strings_of}
use Rattle.image_model.specs.Rows.{count_of, HasRow, run_start, run}
use Rattle.image_model.specs.Structure.{IsFirstWith}

-- no row of a table holds a value in a column
abbrev pub HasNone : List ℕ → (table column value : ℕ) → Type 0
HasNone image table column value = (row : ℕ) → HasRow image table row → cell (tables_of image) table row column ≢ value

-- where the run of a map's row begins and ends, the members standing in another table (II.22.12, II.22.35)
abbrev pub start_of : List ℕ → (map members row : ℕ) → ℕ
start_of image map members row = run_start image members (cell (tables_of image) map row 1)

abbrev pub end_of : List ℕ → (map members row : ℕ) → ℕ
end_of image map members row = if row == count_of image map then count_of image members + 1 else start_of image map members (row + 1)

-- the run of each row whose parent is row 1 of TypeDef is empty
abbrev pub HasEmptyRuns : List ℕ → (map members : ℕ) → Type 0
HasEmptyRuns image map members =
    (row : ℕ) → HasRow image map row → cell (tables_of image) map row 0 ≡ 1 → end_of image map members row ≤ start_of image map members row

-- row 1 of TypeDef has the name `<Module>`, no space and no base
pub record IsModuleNamed (image : List ℕ) : Type 0 where
  pub name : HasText (strings_of image) (cell (tables_of image) 0x02 1 1) (codes "<Module>")
  pub space : HasText (strings_of image) (cell (tables_of image) 0x02 1 2) []
  pub no_base : cell (tables_of image) 0x02 1 3 ≡ 0

-- row 1 of TypeDef has no interface, no attribute and no generic parameter; the two coded indexes name it
pub record OwnsNothing (image : List ℕ) : Type 0 where
  pub interfaces : HasNone image 0x09 0 1
  pub attributes : HasNone image 0x0C 0 0x23
  pub generics : HasNone image 0x2A 2 0x02

-- where the run of an owner's row begins, by the column that says so
abbrev pub run_begin : List ℕ → (owners column members row : ℕ) → ℕ
run_begin image owners column members row = run_start image members (cell (tables_of image) owners row column)

-- the members of an owner's row
abbrev pub run_of : List ℕ → (owners column members row : ℕ) → List ℕ
run_of image owners column members row = run image owners (run_begin image owners column members) members row

-- a run begins at each marked member, and at no other
pub record AreBegins (image : List ℕ) (owners column members : ℕ) (marks : List Bool) : Type 0 where
  pub long : length marks ≡ count_of image members + 2
  pub each : (member : ℕ) → member ≤ count_of image members
      → IsTrue (slice_index_or marks member false) ↔ ((row : ℕ) × HasRow image owners row × (run_begin image owners column members row ≡ member))

-- the first row of a table with each value of its first column
pub record AreFirsts (image : List ℕ) (table most : ℕ) (firsts : List ℕ) : Type 0 where
  pub long : length firsts ≡ most + 1
  pub found : (value : ℕ) → 0 < slice_index firsts value → (slice_index firsts value ≤ count_of image table)
      × (cell (tables_of image) table (slice_index firsts value) 0 ≡ value) × IsFirstWith (λ row. cell (tables_of image) table row 0) (slice_index firsts value)
  pub none : (value : ℕ) → slice_index firsts value ≡ 0 → HasNone image table 0 value
