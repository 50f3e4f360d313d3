-- The shortest packed spellings of signed numbers.
use Rattle.std.proofs.Common.{◌≡◌, ℕ, ◌+◌, ◌^◌, ◌≤◌, ℤ, pos, negsuc, ◌≤ℤ◌, ◌+ℤ◌, int_lt, if◌then◌else◌, List, [], ◌∷◌, ◌++◌, length, take, drop, slice_set, false, sym, ◌∙◌, refl, arith}
use Rattle.byteorder.specs.Endian.{big_bytes}
use Rattle.std.proofs.lemmas.Grind.{common_steps}
use Rattle.il_base.specs.Numbers.{PackedSigned, IsShortest, packed_signed_bytes, packed_signed_length, least_signed, greatest_signed, is_signed_of, turned_left, modulo_bits}

pub signed-length : (n : ℤ) → length (packed_signed_bytes n) ≡ packed_signed_length n
signed-length n = grind (arith, common_steps)

pub signed-spells : (n : ℤ) → least_signed 29 ≤ℤ n → n ≤ℤ greatest_signed 29 → PackedSigned (packed_signed_bytes n) n
signed-spells (pos n) low high = grind (arith, common_steps)
signed-spells (negsuc n) low high = grind (arith, common_steps)

pub signed-shortest : (n : ℤ) → least_signed 29 ≤ℤ n → n ≤ℤ greatest_signed 29 → IsShortest PackedSigned (packed_signed_bytes n) n
signed-shortest n low high other spells = grind (arith, common_steps)

-- twice a number, and modulo 2 ^ bits where it is negative
abbrev pub doubled : ℤ → ℤ → ℤ
doubled n modulus = if int_lt n (pos 0) then (n +ℤ n) +ℤ (modulus +ℤ pos 1) else n +ℤ n

-- doubled it is turned left by one bit
pub turned-7 : (n : ℤ) (t : ℕ) → least_signed 7 ≤ℤ n → n ≤ℤ greatest_signed 7 → pos t ≡ doubled n (pos (2 ^ 7)) → turned_left 7 (modulo_bits 7 n) ≡ t
turned-7 (pos n) t low high is = grind (arith, common_steps)
turned-7 (negsuc n) t low high is = grind (arith, common_steps)

pub turned-14 : (n : ℤ) (t : ℕ) → least_signed 14 ≤ℤ n → n ≤ℤ greatest_signed 14 → pos t ≡ doubled n (pos (2 ^ 14)) → turned_left 14 (modulo_bits 14 n) ≡ t
turned-14 (pos n) t low high is = grind (arith, common_steps)
turned-14 (negsuc n) t low high is = grind (arith, common_steps)

pub turned-29 : (n : ℤ) (t : ℕ) → least_signed 29 ≤ℤ n → n ≤ℤ greatest_signed 29 → pos t ≡ doubled n (pos (2 ^ 29)) → turned_left 29 (modulo_bits 29 n) ≡ t
turned-29 (pos n) t low high is = grind (arith, common_steps)
turned-29 (negsuc n) t low high is = grind (arith, common_steps)

first_set : (bytes : List ℕ) (t : ℕ) → 1 ≤ length bytes → take 1 (slice_set bytes 0 t) ≡ t ∷ []
first_set [] t long = absurd (omega arith)
first_set (b ∷ bytes) t long = refl

-- what is written for a number of 7 bits
pub signed-one : (bytes : List ℕ) (n : ℤ) (t : ℕ) → 1 ≤ length bytes → least_signed 7 ≤ℤ n → n ≤ℤ greatest_signed 7 → pos t ≡ doubled n (pos (2 ^ 7)) → take 1 (slice_set bytes 0 t) ≡ packed_signed_bytes n
signed-one bytes n t long low high is = let turns = turned-7 n t low high is in first_set bytes t long ∙ (rw (sym turns) (grind (arith, common_steps)))

-- what is written for a number of 29 bits that isn't one of 14
pub signed-four : (bytes : List ℕ) (n : ℤ) (t : ℕ) → length bytes ≡ 4 → least_signed 29 ≤ℤ n → n ≤ℤ greatest_signed 29 → is_signed_of 14 n ≡ false → pos t ≡ doubled n (pos (2 ^ 29)) → take 4 (big_bytes 4 (2 ^ 31 + 2 ^ 30 + t) ++ drop 4 bytes) ≡ packed_signed_bytes n
signed-four bytes n t long low high more is = let turns = turned-29 n t low high is in rw (sym turns) (grind (arith, common_steps))
