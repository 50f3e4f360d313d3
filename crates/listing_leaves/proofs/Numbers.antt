-- Numbers and labels are tokens.
use Rattle.std.proofs.Common.{◌≡◌, ℕ, zero, suc, ◌+◌, ◌-◌, ◌%◌, ◌^◌, ◌<◌, Bool, true, false, inl, inr, List, [], ◌∷◌, length, refl, arith}
use lib.Signed.{mag}
use Rattle.std.specs.Prelude.{ℤ, pos, negsuc}
use Rattle.std.specs.Char.{digit_value}
use Rattle.std.specs.Fmt.{digits, decimal}
use Rattle.std.specs.Str.Parse.{AllDigits}
use Rattle.std.proofs.lemmas.Fmt.{decimal_by_steps_wide, digits_is_IsNumeral}
use Rattle.il_lexer.specs.Classes.{is_digit, is_hex, is_id_part}
use Rattle.il_lexer.specs.Spelled.{Each, EachOf, IsName}
use Rattle.il_lexer.specs.declared.types.TokenKind.TheVariants.{Name, Int}
use Rattle.listing_leaves.specs.Laws.{NumbersAreLeaves, IsLeaf}
use Rattle.listing_leaves.specs.Numbers.{zeros, at_least, hexadecimal, natural, integer, label, data_label}
use Rattle.listing_leaves.proofs.Each.{each_of_append, each_of_then}
use Rattle.listing_leaves.proofs.NoWords.{begins_so, begun}

digit_is : (d : ℕ) → d < 10 → is_digit (48 + d) ≡ true
digit_is d h = grind arith

decimal_digits : (n : ℕ) → n < 10 ^ 64 → EachOf is_digit (decimal n)
decimal_digits n small =
    decimal_by_steps_wide (λ n ds. EachOf is_digit ds) (λ n h. (digit_is n h, tt))
    (λ n ds h d. each_of_then is_digit ds ((48 + n % 10) ∷ []) d (digit_is (n % 10) (grind arith), tt)) n small

hex_is : (c : ℕ) → digit_value c < 16 → is_hex c ≡ true
hex_is c h = grind (arith, h)

hex_digits_of : (ds : List ℕ) → AllDigits 16 ds → Each is_hex ds
hex_digits_of [] h = tt
hex_digits_of (d ∷ ds) h = (hex_is d h.0, hex_digits_of ds h.1)

zeros_are : (p : ℕ → Bool) → p 48 ≡ true → (n : ℕ) → Each p (zeros n)
zeros_are p z zero = tt
zeros_are p z (suc n) = (z, zeros_are p z n)

not_empty : (p : ℕ → Bool) (ds : List ℕ) → 0 < length ds → Each p ds → EachOf p ds
not_empty p [] l h = absurd (omega arith)
not_empty p (d ∷ ds) l h = h

hex_padded : (width : ℕ) (upper : Bool) (n : ℕ) → n < 16 ^ 64 → EachOf is_hex (at_least width (digits 16 upper n))
hex_padded width upper n small =
    let numeral = digits_is_IsNumeral 16 upper (omega arith) (omega arith) n small in
    let ds = digits 16 upper n in
    each_of_append is_hex (zeros (width - length ds)) ds (zeros_are is_hex refl (width - length ds))
    (not_empty is_hex ds numeral.0.0 (hex_digits_of ds numeral.0.1))

first_digit : (w : List ℕ) → EachOf is_digit w → begins_so w ≡ true
first_digit [] h = absurd h
first_digit (d ∷ ds) h = grind (arith, h.0)

natural_leaf : (n : ℕ) → n < 2 ^ 128 → IsLeaf Int (natural n)
unfolding natural
natural_leaf n small =
    let ds : EachOf is_digit (decimal n) = decimal_digits n (grind (arith, small)) in
    record { spelled = inl (inl ds); own = inr (begun (decimal n) (first_digit (decimal n) ds)) }

minus_digit : (w : List ℕ) → EachOf is_digit w → begins_so (45 ∷ w) ≡ true
minus_digit [] h = absurd h
minus_digit (d ∷ ds) h = grind (arith, h.0)

integer_leaf : (z : ℤ) → mag z < 2 ^ 127 → IsLeaf Int (integer z)
unfolding integer
integer_leaf (pos n) small =
    let ds : EachOf is_digit (decimal n) = decimal_digits n (grind (arith, small)) in
    record { spelled = inl (inl ds); own = inr (begun (decimal n) (first_digit (decimal n) ds)) }
integer_leaf (negsuc n) small =
    let ds : EachOf is_digit (decimal (suc n)) = decimal_digits (suc n) (grind (arith, small)) in
    record { spelled = inl (inr (decimal (suc n), ds, refl)); own = inr (begun (45 ∷ decimal (suc n)) (minus_digit (decimal (suc n)) ds)) }

hexadecimal_leaf : (width n : ℕ) → n < 2 ^ 128 → IsLeaf Int (hexadecimal width n)
unfolding hexadecimal
hexadecimal_leaf width n small = record {
  spelled = inr (inl (at_least width (digits 16 true n), hex_padded width true n (grind (arith, small)), refl));
  own = inr (begun (48 ∷ 120 ∷ at_least width (digits 16 true n)) refl);
}

-- ---- labels

hex_in_id : (b : ℕ) → is_hex b ≡ true → is_id_part b ≡ true
hex_in_id b h = grind (arith, h)

digit_in_id : (b : ℕ) → is_digit b ≡ true → is_id_part b ≡ true
digit_in_id b h = grind (arith, h)

each_is : (p q : ℕ → Bool) → ((b : ℕ) → p b ≡ true → q b ≡ true) → (w : List ℕ) → Each p w → Each q w
each_is p q f [] h = tt
each_is p q f (b ∷ bs) h = (f b h.0, each_is p q f bs h.1)

each_of : (p : ℕ → Bool) (w : List ℕ) → EachOf p w → Each p w
each_of p [] h = absurd h
each_of p (b ∷ bs) h = h

label_leaf : (offset : ℕ) → offset < 2 ^ 128 → IsLeaf Name (label offset)
unfolding label
label_leaf offset small =
    let ds = at_least 4 (digits 16 false offset) in
    let hs : Each is_hex ds = each_of is_hex ds (hex_padded 4 false offset (grind (arith, small))) in
    record {
      spelled = IsName.part (inl (refl, (refl, (refl, each_is is_hex is_id_part hex_in_id ds hs))));
      own = inr (begun (73 ∷ 76 ∷ 95 ∷ ds) refl);
    }

data_label_leaf : (k : ℕ) → k < 2 ^ 128 → IsLeaf Name (data_label k)
unfolding data_label
data_label_leaf k small =
    let ds : Each is_digit (decimal k) = each_of is_digit (decimal k) (decimal_digits k (grind (arith, small))) in
    record {
      spelled = IsName.part (inl (refl, (refl, each_is is_digit is_id_part digit_in_id (decimal k) ds)));
      own = inr (begun (68 ∷ 95 ∷ decimal k) refl);
    }

pub numbers_are_leaves : NumbersAreLeaves
numbers_are_leaves = record {
  natural = natural_leaf;
  integer = integer_leaf;
  hexadecimal = hexadecimal_leaf;
  label = label_leaf;
  data_label = data_label_leaf;
}
