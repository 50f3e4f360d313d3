-- The numbers of an image: unsigned, the lowest byte first (II.25.1). A byte past the end counts as 0.
use Rattle.std.specs.Prelude.{ℕ, ◌+◌, ◌-◌, ◌*◌, ◌/◌, List, drop, slice_index}
use Rattle.byteorder.specs.Endian.{little_number}

-- the byte at a place
abbrev pub u8_at : List ℕ → ℕ → ℕ
u8_at bytes place = slice_index bytes place

-- the number in the two bytes at a place
unfoldable pub u16_at : List ℕ → ℕ → ℕ
u16_at bytes place = little_number 2 (drop place bytes)

-- the number in the four bytes at a place
unfoldable pub u32_at : List ℕ → ℕ → ℕ
u32_at bytes place = little_number 4 (drop place bytes)

-- the least multiple of a unit that is at least n
unfoldable pub round_up : ℕ → ℕ → ℕ
round_up n unit = (n + (unit - 1)) / unit * unit
