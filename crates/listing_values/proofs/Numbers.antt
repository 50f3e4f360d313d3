-- Numbers are read back.
use Rattle.std.proofs.Common.{◌≡◌, ℕ, zero, suc, ◌+◌, ◌-◌, ◌*◌, ◌^◌, ◌<◌, ◌&&◌, nat_eq, Bool, true, false, cond, ℤ, pos, negsuc, neg_ℤ, List, [], ◌∷◌, ◌++◌, length, drop, fold, refl, ap, ◌∙◌, arith}
use Rattle.std.proofs.lemmas.Fmt.{decimal_is_IsNumeral_wide, digits_is_IsNumeral}
use Rattle.std.specs.Char as char
use Rattle.std.specs.Fmt.{digits, decimal}
use Rattle.std.specs.Str.Parse.{AllDigits, digits_value_after}
use lib.Signed.{mag}
use Rattle.il_lexer.specs.Classes.{first_is}
use Rattle.source_model.specs.Values as read
use Rattle.listing_leaves.specs.Numbers as numbers
use Rattle.listing_leaves.specs.Numbers.{zeros, at_least}
use Rattle.listing_values.specs.Laws.{NumbersAreRead}

-- ---- digits

same_digit : (c : ℕ) → char.digit_value c < 16 → read.digit_value c ≡ char.digit_value c
same_digit c h = grind (arith, h)

pub digits_read : (base v : ℕ) (ds : List ℕ) → AllDigits 16 ds → fold (λ value digit. value * base + read.digit_value digit) v ds ≡ digits_value_after base v ds
digits_read base v [] h = refl
digits_read base v (d ∷ ds) h =
    ap (λ k. fold (λ value digit. value * base + read.digit_value digit) (v * base + k) ds) (same_digit d h.0)
    ∙ digits_read base (v * base + char.digit_value d) ds h.1

pub wider_digits : (ds : List ℕ) → AllDigits 10 ds → AllDigits 16 ds
wider_digits [] h = tt
wider_digits (d ∷ ds) h = let low = h.0 in (omega arith, wider_digits ds h.1)

pub padded : (k : ℕ) (ds : List ℕ) → fold (λ value digit. value * 16 + read.digit_value digit) 0 (zeros k ++ ds) ≡ fold (λ value digit. value * 16 + read.digit_value digit) 0 ds
padded zero ds = refl
padded (suc k) ds = padded k ds

-- ---- decimal digits

no_mark : (c x : ℕ) → char.digit_value c < 10 → 57 < x → x < 128 → nat_eq c x ≡ false
no_mark c x h low high = grind (arith, h, low, high)

no_sign : (c : ℕ) → char.digit_value c < 10 → nat_eq c 45 ≡ false
no_sign c h = grind (arith, h)

-- no sign stands at the front, and no `x` behind the first digit
plain_front : (ds : List ℕ) → AllDigits 10 ds → (first_is 45 ds ≡ false) × (first_is 120 (drop 1 ds) ≡ false)
plain_front [] h = (refl, refl)
plain_front (c ∷ []) h = (no_sign c h.0, refl)
plain_front (c ∷ d ∷ ds) h = (no_sign c h.0, no_mark d 120 h.1.0 (omega arith) (omega arith))

never : (a b : Bool) → b ≡ false → (a && b) ≡ false
never true b h = h
never false b h = refl

decimal_magnitude : (n : ℕ) → n < 2 ^ 128 → read.magnitude (decimal n) ≡ n
unfolding read.magnitude
decimal_magnitude n small =
    let numeral = decimal_is_IsNumeral_wide n (grind (arith, small)) in
    let front = plain_front (decimal n) numeral.0.1 in
    ap (λ c. cond c (read.number_by 16 (drop 2 (decimal n))) (read.number_by 10 (decimal n))) (never (first_is 48 (decimal n)) (first_is 120 (drop 1 (decimal n))) front.1)
    ∙ (digits_read 10 0 (decimal n) (wider_digits (decimal n) numeral.0.1) ∙ numeral.1)

natural_read : (n : ℕ) → n < 2 ^ 128 → read.integer (numbers.natural n) ≡ pos n
unfolding read.integer numbers.natural
natural_read n small =
    let numeral = decimal_is_IsNumeral_wide n (grind (arith, small)) in
    ap (λ c. cond c (neg_ℤ (pos (read.magnitude (drop 1 (decimal n))))) (pos (read.magnitude (decimal n)))) (plain_front (decimal n) numeral.0.1).0
    ∙ ap (λ k. pos k) (decimal_magnitude n small)

integer_read : (z : ℤ) → mag z < 2 ^ 127 → read.integer (numbers.integer z) ≡ z
unfolding read.integer numbers.integer
integer_read (pos n) small =
    let low : n < 2 ^ 128 = omega arith in
    let numeral = decimal_is_IsNumeral_wide n (grind (arith, low)) in
    ap (λ c. cond c (neg_ℤ (pos (read.magnitude (drop 1 (decimal n))))) (pos (read.magnitude (decimal n)))) (plain_front (decimal n) numeral.0.1).0
    ∙ ap (λ k. pos k) (decimal_magnitude n low)
integer_read (negsuc n) small =
    let low : suc n < 2 ^ 128 = omega arith in
    ap (λ k. neg_ℤ (pos k)) (decimal_magnitude (suc n) low)

hexadecimal_read : (width n : ℕ) → n < 2 ^ 128 → read.integer (numbers.hexadecimal width n) ≡ pos n
unfolding read.integer read.magnitude numbers.hexadecimal
hexadecimal_read width n small =
    let numeral = digits_is_IsNumeral 16 true (omega arith) (omega arith) n (grind (arith, small)) in
    let ds = digits 16 true n in
    ap (λ k. pos k) (padded (width - length ds) ds ∙ (digits_read 16 0 ds numeral.0.1 ∙ numeral.1))

pub numbers_are_read : NumbersAreRead
numbers_are_read = record { natural = natural_read; integer = integer_read; hexadecimal = hexadecimal_read }
