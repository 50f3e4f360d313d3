-- What calls of a shelf and of a console do, and why they fail.
use Rattle.std.specs.Prelude.{◌≡◌, ◌≢◌, ℕ, ◌+◌, ◌-◌, ◌^◌, ◌≤◌, min, ◌⊎◌, List, [], length, take, drop, Option, unwrap_or}

-- the files that are told: the bytes under each name that is there
abbrev pub Files : Type 0
Files = List ℕ → Option (List ℕ)

-- A count of 64 bits that stays at its last value rose: it is higher now, or stands there.
abbrev pub Rose : ℕ → ℕ → Type 0
Rose before now = min (before + 1) (2 ^ 64 - 1) ≤ now

-- the bytes under a name, an absent name counting as an empty file
abbrev pub content : Files → List ℕ → List ℕ
content files name = unwrap_or (files name) []

-- a read of a file at a place put `count` of its bytes at the front of `into`, and none only where there is none or no room
pub record ReadsAt (file : List ℕ) (at count : ℕ) (into : List ℕ) : Type 0 where
  pub bytes : take count into ≡ take count (drop at file)
  pub inside : count ≤ length file - at
  pub none : count ≡ 0 → (length file ≤ at) ⊎ (length into ≡ 0)

-- no file but this one changed
abbrev pub ChangesOnly : List ℕ → Files → Files → Type 0
ChangesOnly name before now = (other : List ℕ) → other ≢ name → now other ≡ before other
