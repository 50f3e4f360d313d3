-- An image that meets the demands that are asked before any name is looked at (II.22).
use Rattle.std.specs.Prelude.{ℕ, List}
use Rattle.image_model.specs.Rows.{HasRow}
use Rattle.image_model.specs.Cells.{HasIndexes, HasEntry, HasEntries}
use Rattle.image_model.specs.Structure.{HasManifest, HasRuns, IsSorted}

-- I8 to I12 hold
pub record MeetStructure (image : List ℕ) : Type 0 where
  pub indexes : (table row : ℕ) → HasRow image table row → HasIndexes image table row
  pub entry : HasEntry image
  pub entries : (table row : ℕ) → HasRow image table row → HasEntries image table row
  pub manifest : (table row : ℕ) → HasManifest image table row
  pub runs : (table row : ℕ) → HasRuns image table row
  pub order : (table row : ℕ) → IsSorted image table row
