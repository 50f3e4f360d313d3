-- Bytes in parentheses are tokens.
use Rattle.std.proofs.Common.{◌≡◌, ℕ, ◌/◌, ◌%◌, ◌<◌, true, nat_lt, inr, List, [], ◌∷◌, length, refl, arith}
use Rattle.std.specs.Fmt.{digit_glyph}
use Rattle.il_lexer.specs.Classes.{is_hex}
use Rattle.il_lexer.specs.Spelled.{IsGap, IsPairs, IsBytes, HasBytes}
use Rattle.il_lexer.specs.declared.types.TokenKind.TheVariants.{EqBytes, ByteArray}
use Rattle.listing_leaves.specs.Bytes.{pairs, parenthesized, equals_bytes, byte_array}
use Rattle.listing_leaves.specs.Laws.{IsLeaf, are_bytes, BytesAreLeaves}
use Rattle.listing_leaves.proofs.Each.{and_parts, less}
use Rattle.listing_leaves.proofs.NoWords.{marked}

glyph_is : (d : ℕ) → d < 16 → is_hex (digit_glyph true d) ≡ true
glyph_is d h = grind (arith, h)

high : (b : ℕ) → b < 256 → is_hex (digit_glyph true (b / 16)) ≡ true
high b h = glyph_is (b / 16) (omega arith)

low : (b : ℕ) → is_hex (digit_glyph true (b % 16)) ≡ true
low b = glyph_is (b % 16) (omega arith)

pairs_are : (bytes : List ℕ) → are_bytes bytes ≡ true → IsPairs (length bytes) (pairs bytes)
pairs_are [] h = IsPairs.none refl refl
pairs_are (b ∷ []) h = IsPairs.last refl (high b (less b 256 (and_parts (nat_lt b 256) true h).0)) (low b) IsGap.none refl
pairs_are (b ∷ c ∷ more) h =
    let hs = and_parts (nat_lt b 256) (are_bytes (c ∷ more)) h in
    IsPairs.more refl (high b (less b 256 hs.0)) (low b) (IsGap.blank {b = 32} refl IsGap.none) (omega arith) (pairs_are (c ∷ more) hs.1) refl

in_parentheses : (bytes : List ℕ) → are_bytes bytes ≡ true → IsBytes (length bytes) (parenthesized bytes)
in_parentheses bytes h = record { lead = []; pairs = pairs bytes; gap = IsGap.none; spelled = pairs_are bytes h; is = refl }

behind_blank : (bytes : List ℕ) → are_bytes bytes ≡ true → HasBytes (32 ∷ parenthesized bytes)
behind_blank bytes h = record {
  lead = 32 ∷ [];
  inner = parenthesized bytes;
  count = length bytes;
  gap = IsGap.blank {b = 32} refl IsGap.none;
  bytes = in_parentheses bytes h;
  is = refl;
}

equals_leaf : (bytes : List ℕ) → are_bytes bytes ≡ true → IsLeaf EqBytes (equals_bytes bytes)
unfolding equals_bytes
equals_leaf bytes h = record {
  spelled = (32 ∷ parenthesized bytes, behind_blank bytes h, refl);
  own = inr (marked (61 ∷ 32 ∷ parenthesized bytes) refl);
}

array_leaf : (bytes : List ℕ) → are_bytes bytes ≡ true → IsLeaf ByteArray (byte_array bytes)
unfolding byte_array
array_leaf bytes h = record {
  spelled = (32 ∷ parenthesized bytes, behind_blank bytes h, refl);
  own = inr (marked (98 ∷ 121 ∷ 116 ∷ 101 ∷ 97 ∷ 114 ∷ 114 ∷ 97 ∷ 121 ∷ 32 ∷ parenthesized bytes) refl);
}

pub bytes_are_leaves : BytesAreLeaves
bytes_are_leaves = record { equals = equals_leaf; array = array_leaf }
