use Rattle.std.proofs.Common.{◌≡◌, ℕ, ◌+◌, ◌≤◌, ◌<◌, List, length}
use Rattle.std.specs.Prelude.{slice_index}
use Rattle.metadata_tables.specs.Stream.{cell}
use Rattle.image_model.specs.Rows.{count_of}
use Rattle.image_model.specs.Streams.{tables_of}
use Rattle.image_types.proofs.maps.first_maps.Given as goal

-- the first of the rows so far with each value
pub record AreSoFar (image : List ℕ) (table most upto : ℕ) (firsts : List ℕ) : Type 0 where
  pub long : length firsts ≡ most + 1
  pub within : (value : ℕ) → slice_index firsts value ≤ upto
  pub is : (value : ℕ) → 0 < slice_index firsts value → cell (tables_of image) table (slice_index firsts value) 0 ≡ value
  pub first : (value row : ℕ) → 0 < row → row < slice_index firsts value → cell (tables_of image) table row 0 ≡ value → ⊥
  pub none : (value row : ℕ) → slice_index firsts value ≡ 0 → 0 < row → row ≤ upto → cell (tables_of image) table row 0 ≡ value → ⊥

abbrev pub invariant-loop-row : goal.invariant-loop-row
invariant-loop-row l = AreSoFar l.image l.map (count_of l.image 0x02) l.row l.firsts.items
