-- The bytes of a heap of strings at which a text stands (II.24.2.3).
use Rattle.std.specs.Prelude.{◌≡◌, ℕ, ◌<◌, ◌≤◌, ◌↔◌, Bool, IsTrue, List, length, drop, slice_index, slice_index_or, false}
use Rattle.heaps.specs.Content.{BeginsText}

-- the bytes from a place on begin with a text
abbrev pub BeginsAt : List ℕ → ℕ → Type 0
BeginsAt heap place = (text : List ℕ) × BeginsText (drop place heap) text

-- a byte goes on with a character that began before it
abbrev pub GoesOn : ℕ → Type 0
GoesOn byte = (128 ≤ byte) × (byte < 192)

-- `marks` tell, of each byte from a place on, whether a text stands there
pub record AreMarked (heap : List ℕ) (from : ℕ) (marks : List Bool) : Type 0 where
  pub long : length marks ≡ length heap
  pub each : (at : ℕ) → from ≤ at → at < length heap → IsTrue (slice_index_or marks at false) ↔ BeginsAt heap at
