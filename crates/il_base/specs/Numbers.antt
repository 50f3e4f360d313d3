-- Numbers in signatures and heaps (ECMA-335, II.23.2 and II.24.2.4). A plain number is `little_number` of `Endian`: so many
-- bytes, the lowest first.
use Rattle.std.specs.Prelude.{◌≡◌, ℕ, ◌+◌, ◌-◌, ◌*◌, ◌/◌, ◌%◌, ◌^◌, ◌<◌, ◌≤◌, ◌==◌, ◌&&◌, ℤ, pos, negsuc, ◌≤ℤ◌, int_le, nat_lt, if◌then◌else◌, Bool, List, [], ◌∷◌, length, take, drop}
use Rattle.byteorder.specs.Endian.{big_bytes}

-- These bytes spell this number in packed form: it stands in the bits 6 to 0 of one byte whose bit 7 is 0, in the bits 13 to 0
-- of two bytes whose bits 15 and 14 are 10, or in the bits 28 to 0 of four bytes whose bits 31 to 29 are 110. The highest byte
-- comes first.
abbrev pub Packed : List ℕ → ℕ → Type 0
Packed (a ∷ []) n = (n < 2 ^ 7) × (a ≡ n)
Packed (a ∷ b ∷ []) n = (n < 2 ^ 14) × (b < 2 ^ 8) × (a * 2 ^ 8 + b ≡ 2 ^ 15 + n)
Packed (a ∷ b ∷ c ∷ d ∷ []) n =
    (n < 2 ^ 29) × (b < 2 ^ 8) × (c < 2 ^ 8) × (d < 2 ^ 8) × (a * 2 ^ 24 + b * 2 ^ 16 + c * 2 ^ 8 + d ≡ 2 ^ 31 + 2 ^ 30 + n)
Packed bytes n = ⊥

-- how many bits hold the number in a packed spelling of so many bytes
abbrev pub packed_bits : ℕ → ℕ
packed_bits count = if count == 1 then 7 else if count == 2 then 14 else 29

-- a signed number modulo 2 ^ bits
abbrev pub modulo_bits : ℕ → ℤ → ℕ
modulo_bits bits (pos n) = n % 2 ^ bits
modulo_bits bits (negsuc n) = 2 ^ bits - 1 - n % 2 ^ bits

-- a number of so many bits, turned left by one bit: the highest bit becomes the lowest
abbrev pub turned_left : ℕ → ℕ → ℕ
turned_left bits n = (2 * n) % 2 ^ bits + n / 2 ^ (bits - 1)

-- the least and the greatest signed number of so many bits
abbrev pub least_signed : ℕ → ℤ
least_signed bits = negsuc (2 ^ (bits - 1) - 1)

abbrev pub greatest_signed : ℕ → ℤ
greatest_signed bits = pos (2 ^ (bits - 1) - 1)

-- this signed number of so many bits is `turned` when it is taken modulo 2 ^ bits and turned left by one bit
pub record IsTurned (bits : ℕ) (n : ℤ) (turned : ℕ) : Type 0 where
  pub low : least_signed bits ≤ℤ n
  pub high : n ≤ℤ greatest_signed bits
  pub turns : turned ≡ turned_left bits (modulo_bits bits n)

-- These bytes spell this signed number in packed form: it is a signed number of the bits that so many bytes hold, and they
-- spell it modulo 2 ^ bits, turned left by one bit.
abbrev pub PackedSigned : List ℕ → ℤ → Type 0
PackedSigned bytes n = (turned : ℕ) × IsTurned (packed_bits (length bytes)) n turned × Packed bytes turned

-- no shorter bytes spell the same
abbrev pub IsShortest : {X : Type 0} → (List ℕ → X → Type 0) → List ℕ → X → Type 0
IsShortest Spells bytes value = (other : List ℕ) → Spells other value → length bytes ≤ length other

-- the `count` bytes from place `at` on lie in `bytes` and spell this value
pub record StandsAt {X : Type 0} (Spells : List ℕ → X → Type 0) (bytes : List ℕ) (at : ℕ) (value : X) (count : ℕ) : Type 0 where
  pub inside : at + count ≤ length bytes
  pub spelling : Spells (take count (drop at bytes)) value

-- how many bytes the shortest packed spelling of a number has
abbrev pub packed_length : ℕ → ℕ
packed_length n = if nat_lt n (2 ^ 7) then 1 else if nat_lt n (2 ^ 14) then 2 else 4

-- that spelling
abbrev pub packed_bytes : ℕ → List ℕ
packed_bytes n =
    if nat_lt n (2 ^ 7) then big_bytes 1 n
    else if nat_lt n (2 ^ 14) then big_bytes 2 (2 ^ 15 + n)
    else big_bytes 4 (2 ^ 31 + 2 ^ 30 + n)

-- whether it is a signed number of so many bits
abbrev pub is_signed_of : ℕ → ℤ → Bool
is_signed_of bits n = int_le (least_signed bits) n && int_le n (greatest_signed bits)

-- how many bytes the shortest packed spelling of a signed number has
abbrev pub packed_signed_length : ℤ → ℕ
packed_signed_length n = if is_signed_of 7 n then 1 else if is_signed_of 14 n then 2 else 4

-- that spelling
abbrev pub packed_signed_bytes : ℤ → List ℕ
packed_signed_bytes n =
    if is_signed_of 7 n then big_bytes 1 (turned_left 7 (modulo_bits 7 n))
    else if is_signed_of 14 n then big_bytes 2 (2 ^ 15 + turned_left 14 (modulo_bits 14 n))
    else big_bytes 4 (2 ^ 31 + 2 ^ 30 + turned_left 29 (modulo_bits 29 n))
