-- How many bytes stand in a heap of strings from a place on, up to the first zero (II.24.2.3).
use Rattle.std.specs.Prelude.{◌≡◌, ℕ, suc, ◌-◌, ◌^◌, ◌<◌, ◌≤◌, ◌==◌, min, if◌then◌else◌, List, [], ◌∷◌, length, drop, slice_index}

-- how many bytes stand before the first zero
abbrev pub before_zero : List ℕ → ℕ
before_zero [] = 0
before_zero (byte ∷ bytes) = if byte == 0 then 0 else suc (before_zero bytes)

-- how many stand so from a place on
unfoldable pub length_from : List ℕ → ℕ → ℕ
length_from heap place = before_zero (drop place heap)

-- these are the lengths from each place from one on; a length that passes the last number of 32 bits stays there
pub record AreLengths (heap : List ℕ) (from : ℕ) (lengths : List ℕ) : Type 0 where
  pub long : length lengths ≡ length heap
  pub each : (at : ℕ) → from ≤ at → at < length heap → slice_index lengths at ≡ min (length_from heap at) (2 ^ 32 - 1)
