-- UTF-16 units as bytes, two for each, the low one first, and texts of them in a heap that is being filled (ECMA-335 II.22.9,
-- II.24.2.4).
use Rattle.std.specs.Prelude.{ℕ, ◌^◌, ◌<◌, List, Contains}
use Rattle.std.specs.List.{flat_map}
use Rattle.std.specs.Int.{w16, to_le_bytes}
use Rattle.heaps.specs.Content.{HasUnits}
use Rattle.heaps.specs.Heap.{Heap}

abbrev pub bytes_of_units : List ℕ → List ℕ
bytes_of_units units = flat_map (to_le_bytes w16) units

-- an index in use holds a text, as bytes
pub record HoldsUnits (user : Heap) (units : List ℕ) (index : ℕ) : Type 0 where
  pub there : HasUnits user.bytes index units
  pub used : Contains user.used index

-- whatever a heap holds, it holds later
pub record KeepsUnits (old new : Heap) : Type 0 where
  pub units : (index : ℕ) (units : List ℕ) → HasUnits old.bytes index units → HasUnits new.bytes index units
  pub used : (index : ℕ) → Contains old.used index → Contains new.used index

-- a text stands at an index that a token has room for
abbrev pub IsLoadable : Heap → List ℕ → Type 0
IsLoadable user units = (index : ℕ) × HoldsUnits user (bytes_of_units units) index × (index < 2 ^ 24)
