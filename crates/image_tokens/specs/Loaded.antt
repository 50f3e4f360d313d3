-- The heap of user strings while it is filled with the texts that instructions load (ECMA-335 II.24.2.4, III.4.16).
use Rattle.std.specs.Prelude.{◌≡◌, ℕ, ◌+◌, ◌^◌, ◌<◌, ◌≤◌, List, ◌++◌, Some, Contains, length, slice_get, sum_by}
use Rattle.std.specs.List.{AllByRecursion}
use Rattle.assembly_tree.specs.Room.{entry_size, room_of_texts}
use Rattle.heaps.specs.Content.{HasUnits}
use Rattle.heaps.specs.Heap.{Heap}
use Rattle.image_tokens.specs.Units.{HoldsUnits, bytes_of_units}

-- a text as UTF-16 units
abbrev pub AreUnits : List ℕ → Type 0
AreUnits units = AllByRecursion (λ unit. unit < 2 ^ 16) units

-- Each of the texts stands in the heap, nothing else does, and each distinct one takes its room once.
pub record AreLoaded (user : Heap) (texts : List (List ℕ)) : Type 0 where
  pub units : AllByRecursion AreUnits texts
  pub each : AllByRecursion (λ text. (index : ℕ) × HoldsUnits user (bytes_of_units text) index) texts
  pub only : (index : ℕ) → Contains user.used index → (k : ℕ) × (text : List ℕ) × (slice_get texts k ≡ Some text) × HasUnits user.bytes index (bytes_of_units text)
  pub size : length user.bytes ≡ room_of_texts texts

-- the bytes that the entries of texts take at most
abbrev pub entry_sizes : List (List ℕ) → ℕ
entry_sizes texts = sum_by entry_size texts

-- whatever texts were loaded, these are besides
pub record Loads (old new : Heap) (more : List (List ℕ)) : Type 0 where
  pub loaded : (texts : List (List ℕ)) → AreLoaded old texts → AreLoaded new (texts ++ more)
  pub size : length new.bytes ≤ length old.bytes + entry_sizes more
