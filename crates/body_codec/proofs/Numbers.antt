-- Numbers as bytes, and read again.
use Rattle.std.proofs.Common.{◌≡◌, ◌∙◌, ℕ, zero, suc, ◌<◌, ◌≤◌, ◌-◌, ◌+◌, ◌%◌, ◌^◌, ℤ, pos, negsuc, ◌-ℤ◌, cond, ltb, List, [], ◌∷◌, ◌++◌, length, take, ap, refl, sym, arith}
use Rattle.std.proofs.Math.Nat.{mod-eq_of_lt}
use Rattle.std.proofs.lemmas.Bool.{lt-ltb, le-ltb}
use Rattle.std.proofs.lemmas.Int.{ints}
use Rattle.std.proofs.lemmas.List.{append-nil}
use Rattle.std.specs.Int.{bytes_low_first, byte_at, w64, cast_unsigned}
use Rattle.byteorder.specs.Endian.{little_bytes, little_number, twos_complement}
use Rattle.byteorder.specs.Numbers.{little_from-bytes, little_number-reads_back, length-bytes_low_first}
use Rattle.body_codec.specs.Instruction.{number, signed}
use Rattle.body_codec.specs.Encoding.{FitsBytes}
use Rattle.body_codec.specs.Written.{number_bytes, signed_bytes}

front : (i k n x : ℕ) → n ≤ k → take n (bytes_low_first i k x) ≡ bytes_low_first i n x
front i k zero x h = refl
front i zero (suc n) x h = absurd (omega arith)
front i (suc k) (suc n) x h = ap (λ s. byte_at i x ∷ s) (front (suc i) k n x (omega arith))

-- the lowest bytes of a number are the first of its bytes
pub front_bytes : (n x : ℕ) → n ≤ 8 → take n (bytes_low_first 0 8 x) ≡ little_bytes n x
front_bytes n x h = front 0 8 n x h

pub length-number : (size n : ℕ) → length (number_bytes size n) ≡ size
unfolding number_bytes
length-number size n = length-bytes_low_first 0 size n

-- what is written in some bytes is read
pub little_back : (size n : ℕ) (rest : List ℕ) → n < 256 ^ size → little_number size (number_bytes size n ++ rest) ≡ n
unfolding number_bytes
little_back size n rest h = little_number-reads_back size n rest h

pub number_back : (size n : ℕ) → n < 256 ^ size → number (number_bytes size n) ≡ n
number_back size n h =
    ap (λ k. little_number k (number_bytes size n)) (length-number size n)
    ∙ ap (little_number size) (sym (append-nil (number_bytes size n))) ∙ little_back size n [] h

-- of a greater one the lowest bytes
low_back : (size n : ℕ) (rest : List ℕ) → little_number size (number_bytes size n ++ rest) ≡ n % 256 ^ size
unfolding number_bytes
low_back size n rest = little_from-bytes size 0 n rest ∙ ap (λ k. k % 256 ^ size) (omega arith)

low_number : (size n : ℕ) → number (number_bytes size n) ≡ n % 256 ^ size
low_number size n =
    ap (λ k. little_number k (number_bytes size n)) (length-number size n)
    ∙ ap (little_number size) (sym (append-nil (number_bytes size n))) ∙ low_back size n []

-- ---- in two's complement

complement_pos : (n H F : ℕ) → n < H → H ≤ F → cond (ltb (n % F) H) (pos (n % F)) (pos (n % F) -ℤ pos F) ≡ pos n
complement_pos n H F h l =
    let e : n % F ≡ n = mod-eq_of_lt (omega arith) in rw e (rw (lt-ltb n H h) refl)

complement_neg : (n H F u : ℕ) → suc n ≤ H → F ≡ H + H → u % F ≡ F - suc n → cond (ltb (u % F) H) (pos (u % F)) (pos (u % F) -ℤ pos F) ≡ negsuc n
complement_neg n H F u h e m = rw m (rw (le-ltb (F - suc n) H (omega arith)) (omega (arith, ints)))

complement_1 : (z : ℤ) → FitsBytes 1 z → twos_complement 1 (cast_unsigned w64 z % 256 ^ 1) ≡ z
complement_1 (pos n) f = complement_pos n 128 256 (omega (arith, ints, f.high)) (omega arith)
complement_1 (negsuc n) f =
    complement_neg n 128 256 (18446744073709551616 - suc n) (omega (arith, ints, f.low)) refl (omega (arith, ints, f.low))

complement_4 : (z : ℤ) → FitsBytes 4 z → twos_complement 4 (cast_unsigned w64 z % 256 ^ 4) ≡ z
complement_4 (pos n) f = complement_pos n 2147483648 4294967296 (omega (arith, ints, f.high)) (omega arith)
complement_4 (negsuc n) f =
    complement_neg n 2147483648 4294967296 (18446744073709551616 - suc n) (omega (arith, ints, f.low)) refl (omega (arith, ints, f.low))

complement_8 : (z : ℤ) → FitsBytes 8 z → twos_complement 8 (cast_unsigned w64 z % 256 ^ 8) ≡ z
complement_8 (pos n) f = complement_pos n 9223372036854775808 18446744073709551616 (omega (arith, ints, f.high)) (omega arith)
complement_8 (negsuc n) f =
    complement_neg n 9223372036854775808 18446744073709551616 (18446744073709551616 - suc n) (omega (arith, ints, f.low)) refl
    (omega (arith, ints, f.low))

signed_by : (size : ℕ) (z : ℤ) → twos_complement size (cast_unsigned w64 z % 256 ^ size) ≡ z → signed (signed_bytes size z) ≡ z
signed_by size z e =
    ap (λ k. twos_complement k (number (signed_bytes size z))) (length-number size (cast_unsigned w64 z))
    ∙ ap (twos_complement size) (low_number size (cast_unsigned w64 z)) ∙ e

-- a signed number that fits is read again
pub signed_1 : (z : ℤ) → FitsBytes 1 z → signed (signed_bytes 1 z) ≡ z
signed_1 z f = signed_by 1 z (complement_1 z f)

pub signed_4 : (z : ℤ) → FitsBytes 4 z → signed (signed_bytes 4 z) ≡ z
signed_4 z f = signed_by 4 z (complement_4 z f)

pub signed_8 : (z : ℤ) → FitsBytes 8 z → signed (signed_bytes 8 z) ≡ z
signed_8 z f = signed_by 8 z (complement_8 z f)

-- also in front of more bytes
pub signed_front_4 : (z : ℤ) (rest : List ℕ) → FitsBytes 4 z → twos_complement 4 (little_number 4 (signed_bytes 4 z ++ rest)) ≡ z
signed_front_4 z rest f = ap (twos_complement 4) (low_back 4 (cast_unsigned w64 z) rest) ∙ complement_4 z f
