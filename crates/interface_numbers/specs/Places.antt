-- Rows of InterfaceImpl in groups: those of a group surely name one type (II.22.23).
use Rattle.std.specs.Prelude.{◌≡◌, ℕ, ◌+◌, ◌<◌, ◌≤◌, List, Some, length, slice_index}
use Rattle.hash_places.specs.Slots.{place_of}
use Rattle.hash_places.specs.declared.slots.Slot.{Slot}
use Rattle.image_model.specs.Rows.{HasRow}
use Rattle.interface_numbers.specs.Rows.{HasKey}

-- two rows have one key
abbrev pub HaveOneKey : List ℕ → (one other : ℕ) → Type 0
HaveOneKey image one other = (key : ℕ) × HasKey image one key × HasKey image other key

-- the first rows of the groups, from place 1 on
pub record AreHeads (image : List ℕ) (count : ℕ) (heads : List ℕ) : Type 0 where
  pub long : length heads ≡ count + 1
  pub rows : (place : ℕ) → 0 < place → place ≤ count → HasRow image 0x09 (slice_index heads place)

-- the place of each key is that of a group with it
pub record AreFound (image : List ℕ) (newest : List Slot) (heads : List ℕ) : Type 0 where
  pub some : 0 < length heads
  pub rows : (place : ℕ) → 0 < place → place < length heads → HasRow image 0x09 (slice_index heads place)
  pub found : (key place : ℕ) → place_of newest key ≡ Some place → (0 < place) × (place < length heads) × HasKey image (slice_index heads place) key

-- a place is that of the group of a row
abbrev pub IsPlace : List ℕ → List ℕ → (row place : ℕ) → Type 0
IsPlace image heads row place = (0 < place) × (place < length heads) × HaveOneKey image (slice_index heads place) row

-- the first so many rows have their places
pub record ArePlaced (image : List ℕ) (upto : ℕ) (places heads : List ℕ) : Type 0 where
  pub long : length places ≡ upto + 1
  pub some : 0 < length heads
  pub few : length heads ≤ upto + 1
  pub rows : (place : ℕ) → 0 < place → place < length heads → HasRow image 0x09 (slice_index heads place)
  pub each : (row : ℕ) → 0 < row → row ≤ upto → IsPlace image heads row (slice_index places row)
