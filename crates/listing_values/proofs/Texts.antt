-- Texts between quotes are read back.
use Rattle.std.proofs.Common.{◌≡◌, inl, inr, ℕ, zero, suc, ◌+◌, ◌-◌, ◌*◌, ◌/◌, ◌%◌, ◌<◌, ◌≤◌, ◌&&◌, ◌||◌, not, nat_le, nat_eq, Bool, true, false, cond, List, [], ◌∷◌, ◌++◌, length, take, drop, Some, refl, ap, sym, subst, ◌∙◌, arith, length-append}
use Rattle.std.proofs.lemmas.Bool.{and_parts, cases_Bool, eqb-true, false≢true}
use Rattle.std.specs.List.{flat_map}
use Rattle.il_lexer.specs.Quotes.{line_end, escape_length, is_escape_letter, is_octal_code}
use Rattle.source_model.specs.Values.{or_zero, letter_value, octal_value, escape_bytes, unescaped_within, unescaped, between_quotes, units_of_bytes}
use Rattle.listing_leaves.specs.Texts.{is_control, octal, escaped, quoted, escaped_unit, quoted_units, unit_bytes}
use Rattle.listing_values.specs.Laws.{TextsAreRead}

-- ---- one character

-- a byte that stands for itself
plain_step : (steps b : ℕ) (more : List ℕ) → nat_eq b 92 ≡ false → unescaped_within (suc steps) (b ∷ more) ≡ b ∷ unescaped_within steps more
plain_step steps b more h = ap (λ c. cond c (escape_bytes more ++ unescaped_within steps (drop (or_zero (escape_length more)) more)) (b ∷ unescaped_within steps more)) h

-- an escape of one letter
letter_step : (steps b v : ℕ) (more : List ℕ) → is_escape_letter b ≡ true → letter_value b ≡ v → unescaped_within (suc steps) (92 ∷ b ∷ more) ≡ v ∷ unescaped_within steps more
letter_step steps b v more h e =
    ap (λ c. cond c (letter_value b ∷ []) (cond (nat_le 48 b && nat_le b 55) (octal_value (b ∷ more) ∷ []) []) ++ unescaped_within steps (drop (or_zero (escape_length (b ∷ more))) (b ∷ more))) h
    ∙ (ap (λ c. letter_value b ∷ unescaped_within steps (drop (or_zero (cond c (Some 1) (cond (is_octal_code (b ∷ more)) (Some 3) (line_end (b ∷ more))))) (b ∷ more))) h
    ∙ ap (λ k. k ∷ unescaped_within steps more) e)

-- three octal digits
octal_step : (steps a b c v : ℕ) (more : List ℕ) → is_escape_letter a ≡ false → is_octal_code (a ∷ b ∷ c ∷ more) ≡ true → (nat_le 48 a && nat_le a 55) ≡ true →
    octal_value (a ∷ b ∷ c ∷ more) ≡ v → unescaped_within (suc steps) (92 ∷ a ∷ b ∷ c ∷ more) ≡ v ∷ unescaped_within steps more
octal_step steps a b c v more plain code digit e =
    ap (λ x. cond x (letter_value a ∷ []) (cond (nat_le 48 a && nat_le a 55) (octal_value (a ∷ b ∷ c ∷ more) ∷ []) [])
    ++ unescaped_within steps (drop (or_zero (cond x (Some 1) (cond (is_octal_code (a ∷ b ∷ c ∷ more)) (Some 3) (line_end (a ∷ b ∷ c ∷ more))))) (a ∷ b ∷ c ∷ more))) plain
    ∙ (ap (λ x. cond x (octal_value (a ∷ b ∷ c ∷ more) ∷ []) []
    ++ unescaped_within steps (drop (or_zero (cond (is_octal_code (a ∷ b ∷ c ∷ more)) (Some 3) (line_end (a ∷ b ∷ c ∷ more)))) (a ∷ b ∷ c ∷ more))) digit
    ∙ (ap (λ x. octal_value (a ∷ b ∷ c ∷ more) ∷ unescaped_within steps (drop (or_zero (cond x (Some 3) (line_end (a ∷ b ∷ c ∷ more)))) (a ∷ b ∷ c ∷ more))) code
    ∙ ap (λ k. k ∷ unescaped_within steps more) e))

-- ---- bytes between quotes

-- what an octal code needs, for each byte that has one
abbrev pub octal_ok : ℕ → Bool
octal_ok b =
    not (is_escape_letter (48 + b / 64)) && (is_octal_code ((48 + b / 64) ∷ (48 + b / 8 % 8) ∷ (48 + b % 8) ∷ [])
    && ((nat_le 48 (48 + b / 64) && nat_le (48 + b / 64) 55) && nat_eq (octal_value ((48 + b / 64) ∷ (48 + b / 8 % 8) ∷ (48 + b % 8) ∷ [])) b))

all_ok : ℕ → ℕ → Bool
all_ok zero b = true
all_ok (suc n) b = octal_ok b && all_ok n (suc b)

all_are : all_ok 127 1 ≡ true
unfolding all_ok
all_are = refl

next_one : (k b : ℕ) → nat_eq k b ≡ false → k ≤ b → suc k ≤ b
next_one k b e low = grind (arith, e, low)

one_of_all : (n k b : ℕ) → all_ok n k ≡ true → k ≤ b → b < k + n → octal_ok b ≡ true
unfolding all_ok
one_of_all zero k b h low high = absurd (omega arith)
one_of_all (suc n) k b h low high =
    let hs = and_parts (octal_ok k) (all_ok n (suc k)) h in
    elim (cases_Bool (nat_eq k b)) [
      | inl e ↦ subst (λ c. octal_ok c ≡ true) (eqb-true k b e) hs.0
      | inr e ↦ one_of_all n (suc k) b hs.1 (next_one k b e low) (omega arith)
    ]

pub control_ok : (b : ℕ) → is_control b ≡ true → octal_ok b ≡ true
control_ok b h = one_of_all 127 1 b all_are (grind (arith, h)) (grind (arith, h))

pub not_true : (x : Bool) → not x ≡ true → x ≡ false
not_true false h = refl
not_true true h = absurd (false≢true h)

-- a letter for itself: a backslash and a quote
pub own_letter : (q b : ℕ) → (nat_eq q 34 || nat_eq q 39) ≡ true → (nat_eq b 92 || nat_eq b q) ≡ true → (is_escape_letter b ≡ true) × (letter_value b ≡ b)
own_letter q b h e = by (nat_eq b 92) (nat_eq b q) (nat_eq q 34) (nat_eq q 39) refl refl refl refl h e
  where
    by : (w x y z : Bool) → nat_eq b 92 ≡ w → nat_eq b q ≡ x → nat_eq q 34 ≡ y → nat_eq q 39 ≡ z → (y || z) ≡ true → (w || x) ≡ true → (is_escape_letter b ≡ true) × (letter_value b ≡ b)
    by true x y z e1 e2 e3 e4 h e = subst (λ c. (is_escape_letter c ≡ true) × (letter_value c ≡ c)) (sym (eqb-true b 92 e1)) (refl, refl)
    by false true true z e1 e2 e3 e4 h e = subst (λ c. (is_escape_letter c ≡ true) × (letter_value c ≡ c)) (sym (eqb-true b q e2 ∙ eqb-true q 34 e3)) (refl, refl)
    by false true false true e1 e2 e3 e4 h e = subst (λ c. (is_escape_letter c ≡ true) × (letter_value c ≡ c)) (sym (eqb-true b q e2 ∙ eqb-true q 39 e4)) (refl, refl)
    by false true false false e1 e2 e3 e4 h e = absurd (false≢true h)
    by false false y z e1 e2 e3 e4 h e = absurd (false≢true e)

first_false : (a b : Bool) → (a || b) ≡ false → a ≡ false
first_false true b h = h
first_false false b h = refl

byte_step : (q b : ℕ) (x y : Bool) → (nat_eq q 34 || nat_eq q 39) ≡ true → (nat_eq b 92 || nat_eq b q) ≡ x → is_control b ≡ y → (steps : ℕ) (more : List ℕ) →
    unescaped_within (suc steps) (cond x (92 ∷ b ∷ []) (cond y (octal b) (b ∷ [])) ++ more) ≡ b ∷ unescaped_within steps more
byte_step q b true y h e c steps more = let own = own_letter q b h e in letter_step steps b b more own.0 own.1
byte_step q b false true h e c steps more =
    let ok = and_parts _ _ (control_ok b c) in
    let ok2 = and_parts _ _ ok.1 in
    let ok3 = and_parts _ _ ok2.1 in
    octal_step steps (48 + b / 64) (48 + b / 8 % 8) (48 + b % 8) b more (not_true _ ok.0) ok2.0 ok3.0 (eqb-true _ b ok3.1)
byte_step q b false false h e c steps more = plain_step steps b more (first_false (nat_eq b 92) (nat_eq b q) e)

-- each byte takes one step at most
pub longer : (q b : ℕ) (x y : Bool) → 0 < length (cond x (92 ∷ b ∷ []) (cond y (octal b) (b ∷ [])))
longer q b true y = omega arith
longer q b false true = omega arith
longer q b false false = omega arith

read_back : (q : ℕ) → (nat_eq q 34 || nat_eq q 39) ≡ true → (text : List ℕ) (steps : ℕ) → length (flat_map (escaped q) text) ≤ steps →
    unescaped_within steps (flat_map (escaped q) text) ≡ text
read_back q h [] zero le = refl
read_back q h [] (suc steps) le = refl
read_back q h (b ∷ bs) zero le =
    let some = longer q b (nat_eq b 92 || nat_eq b q) (is_control b) in
    let split = length-append (escaped q b) (flat_map (escaped q) bs) in
    absurd (omega arith)
read_back q h (b ∷ bs) (suc steps) le =
    let some = longer q b (nat_eq b 92 || nat_eq b q) (is_control b) in
    let split = length-append (escaped q b) (flat_map (escaped q) bs) in
    byte_step q b (nat_eq b 92 || nat_eq b q) (is_control b) h refl refl steps (flat_map (escaped q) bs) ∙ ap (λ t. b ∷ t) (read_back q h bs steps (omega arith))

-- ---- between quotes

pub take_front : (xs ys : List ℕ) → take (length xs) (xs ++ ys) ≡ xs
take_front [] ys = refl
take_front (x ∷ xs) ys = ap (λ t. x ∷ t) (take_front xs ys)

pub inner : (q : ℕ) (text : List ℕ) → between_quotes (q ∷ (text ++ q ∷ [])) ≡ text
inner q text =
    let long = length-append text (q ∷ []) in
    let count : suc (length (text ++ q ∷ [])) - 2 ≡ length text = omega arith in
    ap (λ k. take k (text ++ q ∷ [])) count ∙ take_front text (q ∷ [])

pub text_read : (q : ℕ) → (nat_eq q 34 || nat_eq q 39) ≡ true → (text : List ℕ) → unescaped (between_quotes (quoted q text)) ≡ text
unfolding unescaped quoted
text_read q h text = ap (λ t. unescaped_within (length t) t) (inner q (flat_map (escaped q) text)) ∙ read_back q h text (length (flat_map (escaped q) text)) (omega arith)

-- ---- units

unit_step : (u : ℕ) (x y z : Bool) → (nat_eq u 34 || nat_eq u 92) ≡ x → nat_eq u 9 ≡ y → nat_eq u 10 ≡ z → (steps : ℕ) (more : List ℕ) →
    unescaped_within (suc steps) (cond x (92 ∷ u ∷ []) (cond y (92 ∷ 116 ∷ []) (cond z (92 ∷ 110 ∷ []) (u ∷ []))) ++ more) ≡ u ∷ unescaped_within steps more
unit_step u true y z h i j steps more = let own = quote u h in letter_step steps u u more own.0 own.1
  where
    quote : (u : ℕ) → (nat_eq u 34 || nat_eq u 92) ≡ true → (is_escape_letter u ≡ true) × (letter_value u ≡ u)
    quote u e = by (nat_eq u 34) (nat_eq u 92) refl refl e
      where
        by : (a b : Bool) → nat_eq u 34 ≡ a → nat_eq u 92 ≡ b → (a || b) ≡ true → (is_escape_letter u ≡ true) × (letter_value u ≡ u)
        by true b f g k = subst (λ c. (is_escape_letter c ≡ true) × (letter_value c ≡ c)) (sym (eqb-true u 34 f)) (refl, refl)
        by false true f g k = subst (λ c. (is_escape_letter c ≡ true) × (letter_value c ≡ c)) (sym (eqb-true u 92 g)) (refl, refl)
        by false false f g k = absurd (false≢true k)
unit_step u false true z h i j steps more = letter_step steps 116 u more refl (sym (eqb-true u 9 i))
unit_step u false false true h i j steps more = letter_step steps 110 u more refl (sym (eqb-true u 10 j))
unit_step u false false false h i j steps more = plain_step steps u more (second_false (nat_eq u 34) (nat_eq u 92) h)
  where
    second_false : (a b : Bool) → (a || b) ≡ false → b ≡ false
    second_false true b g = absurd (false≢true (sym g))
    second_false false b g = g

unit_longer : (u : ℕ) (x y z : Bool) → 0 < length (cond x (92 ∷ u ∷ []) (cond y (92 ∷ 116 ∷ []) (cond z (92 ∷ 110 ∷ []) (u ∷ []))))
unit_longer u true y z = omega arith
unit_longer u false true z = omega arith
unit_longer u false false true = omega arith
unit_longer u false false false = omega arith

units_back : (us : List ℕ) (steps : ℕ) → length (flat_map escaped_unit us) ≤ steps → unescaped_within steps (flat_map escaped_unit us) ≡ us
units_back [] zero le = refl
units_back [] (suc steps) le = refl
units_back (u ∷ us) zero le =
    let some = unit_longer u (nat_eq u 34 || nat_eq u 92) (nat_eq u 9) (nat_eq u 10) in
    let split = length-append (escaped_unit u) (flat_map escaped_unit us) in
    absurd (omega arith)
units_back (u ∷ us) (suc steps) le =
    let some = unit_longer u (nat_eq u 34 || nat_eq u 92) (nat_eq u 9) (nat_eq u 10) in
    let split = length-append (escaped_unit u) (flat_map escaped_unit us) in
    unit_step u (nat_eq u 34 || nat_eq u 92) (nat_eq u 9) (nat_eq u 10) refl refl refl steps (flat_map escaped_unit us) ∙ ap (λ t. u ∷ t) (units_back us steps (omega arith))

units_read : (us : List ℕ) → unescaped (between_quotes (quoted_units us)) ≡ us
unfolding unescaped quoted_units
units_read us = ap (λ t. unescaped_within (length t) t) (inner 34 (flat_map escaped_unit us)) ∙ units_back us (length (flat_map escaped_unit us)) (omega arith)

bytes_read : (us : List ℕ) → units_of_bytes (unit_bytes us) ≡ us
bytes_read [] = refl
bytes_read (u ∷ us) = let is : u % 256 + 256 * (u / 256) ≡ u = omega arith in ap (λ k. k ∷ units_of_bytes (unit_bytes us)) is ∙ ap (λ t. u ∷ t) (bytes_read us)

pub texts_are_read : TextsAreRead
texts_are_read = record {
  double = λ text h. text_read 34 refl text;
  single = λ text h. text_read 39 refl text;
  units = λ units h. units_read units;
  bytes = bytes_read;
}
