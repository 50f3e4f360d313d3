-- Texts between quotes are tokens.
use Rattle.std.proofs.Common.{◌≡◌, ℕ, suc, ◌+◌, ◌/◌, ◌%◌, ◌<◌, ◌≤◌, Bool, true, false, cond, ◌&&◌, ◌||◌, nat_eq, nat_lt, zero, inl, inr, List, [], ◌∷◌, ◌++◌, refl, ap, subst, ◌∙◌, arith}
use Rattle.std.proofs.lemmas.Bool.{cases_Bool, eqb-true}
use Rattle.std.specs.List.{flat_map, list_all}
use Rattle.il_lexer.specs.Quotes.{is_octal_code, is_escape_letter}
use Rattle.il_lexer.specs.Spelled.{IsEscape, IsText, is_plain}
use Rattle.il_lexer.specs.declared.types.TokenKind.TheVariants.{QString}
use Rattle.listing_leaves.specs.Laws.{IsLeaf, has_no_zero, TextsAreLeaves}
use Rattle.listing_leaves.specs.Texts.{is_control, octal, escaped, quoted, is_simple, escaped_unit, quoted_units, is_simple_string}
use Rattle.listing_leaves.proofs.Each.{and_parts, less}
use Rattle.listing_leaves.proofs.NoWords.{begun}

-- ---- one byte

-- so many bytes from this one on have codes of three octal digits
all_octal : ℕ → ℕ → Bool
all_octal zero b = true
all_octal (suc n) b = is_octal_code ((48 + b / 64) ∷ (48 + b / 8 % 8) ∷ (48 + b % 8) ∷ []) && all_octal n (suc b)

all_are : all_octal 127 1 ≡ true
unfolding all_octal
all_are = refl

one_of_all : (n k b : ℕ) → all_octal n k ≡ true → k ≤ b → b < k + n →
    is_octal_code ((48 + b / 64) ∷ (48 + b / 8 % 8) ∷ (48 + b % 8) ∷ []) ≡ true
unfolding all_octal
one_of_all zero k b h low high = absurd (omega arith)
one_of_all (suc n) k b h low high =
    let hs = and_parts (is_octal_code ((48 + k / 64) ∷ (48 + k / 8 % 8) ∷ (48 + k % 8) ∷ [])) (all_octal n (suc k)) h in
    elim (cases_Bool (nat_eq k b)) [
      | inl e ↦ subst (λ c. is_octal_code ((48 + c / 64) ∷ (48 + c / 8 % 8) ∷ (48 + c % 8) ∷ []) ≡ true) (eqb-true k b e) hs.0
      | inr e ↦ one_of_all n (suc k) b hs.1 (grind (arith, e, low)) (omega arith)
    ]

octal_is : (b : ℕ) → is_control b ≡ true → is_octal_code ((48 + b / 64) ∷ (48 + b / 8 % 8) ∷ (48 + b % 8) ∷ []) ≡ true
octal_is b h = one_of_all 127 1 b all_are (grind (arith, h)) (grind (arith, h))

letter_by : (q b : ℕ) (x y : Bool) → nat_eq b 92 ≡ x → nat_eq b q ≡ y → is_escape_letter q ≡ true → (x || y) ≡ true → is_escape_letter b ≡ true
letter_by q b true y i j e h = ap is_escape_letter (eqb-true b 92 i)
letter_by q b false true i j e h = ap is_escape_letter (eqb-true b q j) ∙ e
letter_by q b false false i j e h = grind (arith, h)

letter_is : (q b : ℕ) → is_escape_letter q ≡ true → (nat_eq b 92 || nat_eq b q) ≡ true → is_escape_letter b ≡ true
letter_is q b e h = letter_by q b (nat_eq b 92) (nat_eq b q) refl refl e h

plain_is : (q b : ℕ) → 0 < b → (nat_eq b 92 || nat_eq b q) ≡ false → is_control b ≡ false → is_plain q b ≡ true
plain_is q b l h c = grind (arith, l, h, c)

one_by : (q b : ℕ) (x y : Bool) → (nat_eq b 92 || nat_eq b q) ≡ x → is_control b ≡ y → is_escape_letter q ≡ true → 0 < b → (text : List ℕ) →
    IsText q text → IsText q (cond x (92 ∷ b ∷ []) (cond y (octal b) (b ∷ [])) ++ text)
one_by q b true y h c e l text t = IsText.escape {e = b ∷ []} (IsEscape.letter (letter_is q b e h) refl) t refl
one_by q b false true h c e l text t =
    IsText.escape {e = (48 + b / 64) ∷ (48 + b / 8 % 8) ∷ (48 + b % 8) ∷ []} (IsEscape.octal (octal_is b c) refl) t refl
one_by q b false false h c e l text t = IsText.plain (plain_is q b l h c) t

pub escaped_text : (q : ℕ) → is_escape_letter q ≡ true → (text : List ℕ) → has_no_zero text ≡ true → IsText q (flat_map (escaped q) text)
escaped_text q e [] h = IsText.none
escaped_text q e (b ∷ bs) h =
    let hs = and_parts (nat_lt 0 b) (has_no_zero bs) h in
    one_by q b (nat_eq b 92 || nat_eq b q) (is_control b) refl refl e (less 0 b hs.0) (flat_map (escaped q) bs) (escaped_text q e bs hs.1)

text_leaf : (text : List ℕ) → has_no_zero text ≡ true → IsLeaf QString (quoted 34 text)
unfolding quoted
text_leaf text h = record {
  spelled = (flat_map (escaped 34) text, escaped_text 34 refl text h, refl);
  own = inr (begun (34 ∷ (flat_map (escaped 34) text ++ 34 ∷ [])) refl);
}

-- ---- one unit

simple_plain : (u : ℕ) → is_simple u ≡ true → (nat_eq u 34 || nat_eq u 92) ≡ false → nat_eq u 10 ≡ false → is_plain 34 u ≡ true
simple_plain u s h n = grind (arith, s, h, n)

quote_letter : (u : ℕ) → (nat_eq u 34 || nat_eq u 92) ≡ true → is_escape_letter u ≡ true
quote_letter u h = grind (arith, h)

unit_by : (u : ℕ) (x y z : Bool) → (nat_eq u 34 || nat_eq u 92) ≡ x → nat_eq u 9 ≡ y → nat_eq u 10 ≡ z → is_simple u ≡ true → (text : List ℕ) →
    IsText 34 text → IsText 34 (cond x (92 ∷ u ∷ []) (cond y (92 ∷ 116 ∷ []) (cond z (92 ∷ 110 ∷ []) (u ∷ []))) ++ text)
unit_by u true y z h i j s text t = IsText.escape {e = u ∷ []} (IsEscape.letter (quote_letter u h) refl) t refl
unit_by u false true z h i j s text t = IsText.escape {e = 116 ∷ []} (IsEscape.letter {a = 116} refl refl) t refl
unit_by u false false true h i j s text t = IsText.escape {e = 110 ∷ []} (IsEscape.letter {a = 110} refl refl) t refl
unit_by u false false false h i j s text t = IsText.plain (simple_plain u s h j) t

units_text : (units : List ℕ) → is_simple_string units ≡ true → IsText 34 (flat_map escaped_unit units)
units_text [] h = IsText.none
units_text (u ∷ us) h =
    let hs = and_parts (is_simple u) (list_all is_simple us) h in
    unit_by u (nat_eq u 34 || nat_eq u 92) (nat_eq u 9) (nat_eq u 10) refl refl refl hs.0 (flat_map escaped_unit us) (units_text us hs.1)

units_leaf : (units : List ℕ) → is_simple_string units ≡ true → IsLeaf QString (quoted_units units)
unfolding quoted_units
units_leaf units h = record {
  spelled = (flat_map escaped_unit units, units_text units h, refl);
  own = inr (begun (34 ∷ (flat_map escaped_unit units ++ 34 ∷ [])) refl);
}

pub texts_are_leaves : TextsAreLeaves
texts_are_leaves = record { text = text_leaf; units = units_leaf }
