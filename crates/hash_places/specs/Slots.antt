-- How hashes are found in slots. A search for a hash begins at a slot that the hash names, goes on to the last slot and then
-- from the first, and ends at the first slot that is empty or has the hash.
use Rattle.std.specs.Prelude.{◌≡◌, ℕ, ◌+◌, ◌*◌, ◌-◌, ◌/◌, ◌%◌, ◌^◌, ◌<◌, ◌≤◌, ◌⊎◌, min, List, [], ◌∷◌, Option, Some, None, ◌&&◌, cond, slice_get, length, nat_eq, nat_lt, bit_and, bit_xor}
use Rattle.hash_places.specs.declared.slots.Slot.{Slot}

-- a hash multiplied by 2^64 over the golden ratio, so that numbers that lie side by side are spread
unfoldable pub spread : ℕ → ℕ
spread hash = (hash * 11400714819323198485) % 2 ^ 64

-- the slot where a search begins, of so many
unfoldable pub start_of : ℕ → ℕ → ℕ
start_of count hash = bit_and (bit_xor (spread hash) (spread hash / 2 ^ 32)) (count - 1)

-- a search for a hash goes past a slot that is used for another
abbrev pub IsOther : ℕ → Slot → Type 0
IsOther hash s = (0 < s.place) × (s.hash ≡ hash → ⊥)

abbrev pub AreOther : List Slot → ℕ → Type 0
AreOther slots hash = (j : ℕ) (t : Slot) → slice_get slots j ≡ Some t → IsOther hash t

abbrev pub AreOtherWithin : List Slot → ℕ → ℕ → ℕ → Type 0
AreOtherWithin slots hash from to = (j : ℕ) (t : Slot) → slice_get slots j ≡ Some t → from ≤ j → j < to → IsOther hash t

-- a search that begins at `start` comes to slot j before slot k
abbrev pub IsBefore : ℕ → ℕ → ℕ → Type 0
IsBefore start j k = ((start ≤ j) × (j < k)) ⊎ ((k < start) × ((start ≤ j) ⊎ (j < k)))

abbrev pub AreOtherBefore : List Slot → ℕ → ℕ → Type 0
AreOtherBefore slots hash k = (j : ℕ) (t : Slot) → slice_get slots j ≡ Some t → IsBefore (start_of (length slots) hash) j k → IsOther hash t

-- slot k is empty or has a hash
abbrev pub Stops : List Slot → ℕ → ℕ → Type 0
Stops slots hash k = (s : Slot) × (slice_get slots k ≡ Some s) × ((s.place ≡ 0) ⊎ (s.hash ≡ hash))

pub record IsStop (slots : List Slot) (hash k : ℕ) : Type 0 where
  pub here : Stops slots hash k
  pub before : AreOtherBefore slots hash k

pub record IsStopWithin (slots : List Slot) (hash from to k : ℕ) : Type 0 where
  pub here : Stops slots hash k
  pub behind : from ≤ k
  pub within : k < to
  pub before : AreOtherWithin slots hash from k

-- at each slot that is used a search for its hash ends; so no two have one hash
abbrev pub AreReached : List Slot → Type 0
AreReached slots = (k : ℕ) (s : Slot) → slice_get slots k ≡ Some s → 0 < s.place → AreOtherBefore slots s.hash k

-- the number of slots that are used
abbrev pub used_in : List Slot → ℕ
used_in [] = 0
used_in (s ∷ more) = min 1 s.place + used_in more

pub record IsTable (slots : List Slot) (used : ℕ) : Type 0 where
  pub reached : AreReached slots
  pub counted : used_in slots ≡ used

abbrev pub AreEmpty : List Slot → Type 0
AreEmpty slots = (k : ℕ) (s : Slot) → slice_get slots k ≡ Some s → s.place ≡ 0

-- the place that a slot has, if it is used
abbrev pub place_in : ℕ → Option ℕ
place_in place = cond (nat_lt 0 place) (Some (place - 1)) None

-- the place of a hash
abbrev pub place_of : List Slot → ℕ → Option ℕ
place_of [] hash = None
place_of (s ∷ more) hash = cond (nat_lt 0 s.place && nat_eq s.hash hash) (Some (s.place - 1)) (place_of more hash)
