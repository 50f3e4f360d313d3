-- Rows of one owner, one after the other. Rows are counted from 1; the list of owners has one for row 0 besides, which counts for
-- nothing.
use Rattle.std.specs.Prelude.{◌≡◌, ◌≢◌, ℕ, ◌<◌, ◌≤◌, ◌⊎◌, List, length, slice_index}

-- no row behind one has this owner, up to another
abbrev pub HasNoneBetween : List ℕ → (owner after before : ℕ) → Type 0
HasNoneBetween owners owner after before = (row : ℕ) → after < row → row < before → row < length owners → slice_index owners row ≢ owner

-- the first row behind one that has this owner, or 0 where none has it
abbrev pub Follows : List ℕ → (owner after row : ℕ) → Type 0
Follows owners owner after row =
    ((row ≡ 0) × HasNoneBetween owners owner after (length owners))
    ⊎ ((after < row) × (row < length owners) × (slice_index owners row ≡ owner) × HasNoneBetween owners owner after row)

-- each row has an owner that is at most this
abbrev pub AreWithin : List ℕ → ℕ → Type 0
AreWithin owners most = (row : ℕ) → 0 < row → row < length owners → slice_index owners row ≤ most

-- for each owner the first of its rows behind one
abbrev pub AreHeads : List ℕ → ℕ → List ℕ → Type 0
AreHeads owners after heads = (owner : ℕ) → Follows owners owner after (slice_index heads owner)

-- for each row behind one the next row of its owner
abbrev pub AreNexts : List ℕ → ℕ → List ℕ → Type 0
AreNexts owners after nexts = (row : ℕ) → after < row → row < length owners → Follows owners (slice_index owners row) row (slice_index nexts row)
