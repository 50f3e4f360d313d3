-- Values that are found by a number: each number in use has a place, and at each place stands a value.
use Rattle.std.specs.Prelude.{◌≡◌, ℕ, ◌<◌, List, length, slice_get, Option, Some, None}
use Rattle.hash_places.specs.Slots.{place_of}
use Rattle.hash_places.specs.declared.slots.Slot.{Slot}

-- the value at a place, where there is one
abbrev pub at_place : {X : Type 0} → List X → Option ℕ → Option X
at_place items None = None
at_place items (Some place) = slice_get items place

-- the value of a number
abbrev pub kept_at : {X : Type 0} → List Slot → List X → ℕ → Option X
kept_at slots items key = at_place items (place_of slots key)

-- each place is one of a value
abbrev pub AreWithin : {X : Type 0} → List Slot → List X → Type 0
AreWithin slots items = (key place : ℕ) → place_of slots key ≡ Some place → place < length items
