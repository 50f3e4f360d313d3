-- Rows that have one number exactly where they are alike. Rows are counted from 1; the list has a number for row 0 besides, which counts
-- for nothing.
use Rattle.std.specs.Prelude.{◌≡◌, ◌↔◌, ℕ, ◌+◌, ◌<◌, ◌≤◌, List, length, slice_index}
use Rattle.row_twins.specs.Linked.{AreLinked, HasRow}
use Rattle.row_twins.specs.Twins.{IsWithin}
use Rattle.row_twins.specs.declared.hashed.HashedRows.{HashedRows}

-- each row is like itself, and rows that are like one row are alike
pub record IsEquivalence (count : ℕ) (alike : ℕ → ℕ → Type 0) : Type 0 where
  pub itself : (row : ℕ) → IsWithin count row → alike row row
  pub back : (one other : ℕ) → IsWithin count one → IsWithin count other → alike one other → alike other one
  pub on : (one other third : ℕ) → IsWithin count one → IsWithin count other → IsWithin count third → alike one other → alike other third → alike one third

-- these are such numbers
abbrev pub NumberTwins : ℕ → (ℕ → ℕ → Type 0) → List ℕ → Type 0
NumberTwins count alike numbers =
    (one other : ℕ) → IsWithin count one → IsWithin count other → (slice_index numbers one ≡ slice_index numbers other) ↔ alike one other

-- the rows whose number is their own, with their hashes: no two of them are alike
pub record AreFirsts (count : ℕ) (alike hashed : ℕ → ℕ → Type 0) (firsts : HashedRows) : Type 0 where
  pub linked : AreLinked firsts
  pub only : (hash row : ℕ) → HasRow firsts.rows hash row → IsWithin count row × hashed row hash
  pub apart : (g h one other : ℕ) → HasRow firsts.rows g one → HasRow firsts.rows h other → alike one other → one ≡ other

-- a row has the number of a row that it is like
abbrev pub IsNumber : (ℕ → ℕ → Type 0) → HashedRows → (row number : ℕ) → Type 0
IsNumber alike firsts row number = (hash : ℕ) × HasRow firsts.rows hash number × alike number row

-- the rows so far
pub record AreNumbered (count : ℕ) (alike : ℕ → ℕ → Type 0) (firsts : HashedRows) (upto : ℕ) (numbers : List ℕ) : Type 0 where
  pub long : length numbers ≡ upto + 1
  pub each : (row : ℕ) → 0 < row → row ≤ upto → IsNumber alike firsts row (slice_index numbers row)
