-- Strings are read back.
use Rattle.std.proofs.Common.{◌≡◌, ℕ, zero, suc, ◌+◌, ◌-◌, ◌/◌, ◌%◌, ◌<◌, ◌&&◌, nat_lt, Bool, true, false, cond, List, [], ◌∷◌, ◌++◌, drop, refl, ap, ◌∙◌, append-nil, arith}
use Rattle.std.proofs.lemmas.Bool.{and_parts}
use Rattle.std.proofs.lemmas.Str.{chars-IsAscii}
use Rattle.std.proofs.lemmas.Str.Ascii.{IsAscii-nil}
use Rattle.std.specs.Char.Escape.{encode_utf16}
use Rattle.std.specs.List.{flat_map}
use Rattle.std.specs.Str.{IsAscii}
use Rattle.source_model.specs.Values as read
use Rattle.listing_growth.specs.Held.{are_units}
use Rattle.listing_leaves.specs.Laws.{are_bytes}
use Rattle.listing_leaves.specs.Texts.{is_simple, is_simple_string, unit_bytes}
use Rattle.listing_values.specs.Laws.{TextsAreRead, BytesAreRead}
use Rattle.listing_constants.specs.Laws.{StringsAreRead}

-- ---- simple strings are their own units

simple_low : (u : ℕ) → is_simple u ≡ true → u < 128
simple_low u h = grind (arith, h)

one_more : (u : ℕ) (us : List ℕ) → u < 128 → IsAscii us → IsAscii (u ∷ us)
one_more u us low h zero = low
one_more u us low h (suc i) = h i

ascii : (us : List ℕ) → is_simple_string us ≡ true → IsAscii us
ascii [] h = IsAscii-nil
ascii (u ∷ us) h = let hs = and_parts (is_simple u) (is_simple_string us) h in one_more u us (simple_low u hs.0) (ascii us hs.1)

one_unit : (u : ℕ) → u < 128 → encode_utf16 u ≡ u ∷ []
one_unit u h = let low : nat_lt u 0x10000 ≡ true = grind (arith, h) in ap (λ c. cond c (u ∷ []) ((0xD800 + (u - 0x10000) / 0x400) ∷ (0xDC00 + (u - 0x10000) % 0x400) ∷ [])) low

encoded : (us : List ℕ) → is_simple_string us ≡ true → flat_map encode_utf16 us ≡ us
encoded [] h = refl
encoded (u ∷ us) h =
    let hs = and_parts (is_simple u) (is_simple_string us) h in
    ap (λ xs. xs ++ flat_map encode_utf16 us) (one_unit u (simple_low u hs.0)) ∙ ap (λ xs. u ∷ xs) (encoded us hs.1)

own_units : (us : List ℕ) → is_simple_string us ≡ true → read.units us ≡ us
own_units us h = ap (flat_map encode_utf16) (chars-IsAscii us (ascii us h)) ∙ encoded us h

-- ---- bytes of units

halves : (u : ℕ) → nat_lt u 0x10000 ≡ true → (nat_lt (u % 256) 256 ≡ true) × (nat_lt (u / 256) 256 ≡ true)
halves u h = (grind (arith, h), grind (arith, h))

both : (x y : Bool) → x ≡ true → y ≡ true → (x && y) ≡ true
both true y h k = k
both false y h k = h

bytes_of_units : (us : List ℕ) → are_units us ≡ true → are_bytes (unit_bytes us) ≡ true
bytes_of_units [] h = refl
bytes_of_units (u ∷ us) h =
    let hs = and_parts (nat_lt u 0x10000) (are_units us) h in
    let parts = halves u hs.0 in
    both (nat_lt (u % 256) 256) _ parts.0 (both (nat_lt (u / 256) 256) (are_bytes (unit_bytes us)) parts.1 (bytes_of_units us hs.1))

pub strings_are_read : TextsAreRead → BytesAreRead → StringsAreRead
strings_are_read texts bytes = record {
  simple = λ s us h at ag.
      ap (λ t. read.units (read.unescaped (read.between_quotes t) ++ [])) ag.0.0.text
      ∙ (ap (λ t. read.units (t ++ [])) (texts.units us h) ∙ (ap read.units (append-nil us) ∙ own_units us h));
  bytes = λ s us h k e.
      ap (λ t. read.units_of_bytes (read.bytes_in_parentheses (drop 9 t))) e
      ∙ (ap read.units_of_bytes (bytes.array (unit_bytes us) (bytes_of_units us h)) ∙ texts.bytes us);
  text = λ s t h at ag. ap (λ x. read.unescaped (read.between_quotes x) ++ []) ag.0.0.text ∙ (ap (λ x. x ++ []) (texts.double t h) ∙ append-nil t);
}
