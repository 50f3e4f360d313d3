-- Bytes and UTF-16 units, each behind a blank.
use Rattle.std.specs.Prelude.{ℕ, ◌/◌, ◌%◌, List, ◌∷◌, ◌++◌}
use Rattle.listing_leaves.specs.Bytes.{pair}

abbrev pub spaced : ℕ → List ℕ
spaced b = 32 ∷ pair b

-- the two bytes of a unit, the low one first
abbrev pub two_pairs : ℕ → List ℕ
two_pairs u = pair (u % 256) ++ 32 ∷ pair (u / 256)

abbrev pub spaced_unit : ℕ → List ℕ
spaced_unit u = 32 ∷ two_pairs u
