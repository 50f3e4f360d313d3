-- Rows that are found by their hashes: from the last row with a hash a link leads to the last one before it, and so on.
use Rattle.std.specs.Prelude.{◌≡◌, ℕ, ◌+◌, ◌<◌, List, [], ◌∷◌, ◌++◌, Option, Some, None, length, slice_get}
use Rattle.hash_places.specs.Slots.{place_of}
use Rattle.row_twins.specs.declared.hashed.Hashed.{Hashed}
use Rattle.row_twins.specs.declared.hashed.HashedRows.{HashedRows}

-- no row from one place on and before another has a hash
abbrev pub LacksHash : List Hashed → ℕ → (from before : ℕ) → Type 0
LacksHash rows hash from before = (k : ℕ) (r : Hashed) → from < k + 1 → k < before → slice_get rows k ≡ Some r → r.hash ≡ hash → ⊥

-- the row at a place has a hash
abbrev pub HasHash : List Hashed → ℕ → ℕ → Type 0
HasHash rows hash place = (r : Hashed) × (slice_get rows place ≡ Some r) × (r.hash ≡ hash)

-- the last place before one whose row has a hash, where there is one
abbrev pub IsLast : List Hashed → (hash before : ℕ) → Option ℕ → Type 0
IsLast rows hash before None = LacksHash rows hash 0 before
IsLast rows hash before (Some place) = (place < before) × HasHash rows hash place × LacksHash rows hash (place + 1) before

-- the links lead through the rows of each hash
pub record AreLinked (it : HashedRows) : Type 0 where
  pub paired : length it.nexts ≡ length it.rows
  pub newest : (hash : ℕ) → IsLast it.rows hash (length it.rows) (place_of it.newest hash)
  pub linked : (place : ℕ) (r : Hashed) (next : Option ℕ) → slice_get it.rows place ≡ Some r → slice_get it.nexts place ≡ Some next → IsLast it.rows r.hash place next

-- a row was put in with a hash
abbrev pub HasRow : List Hashed → (hash row : ℕ) → Type 0
HasRow rows hash row = (place : ℕ) × (slice_get rows place ≡ Some (record { hash = hash; row = row }))

-- one row more
abbrev pub AddsRow : (old new : List Hashed) → (hash row : ℕ) → Type 0
AddsRow old new hash row = new ≡ old ++ record { hash = hash; row = row } ∷ []
