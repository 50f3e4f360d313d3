-- The items of data: their widths, and where their bytes and counts stand.
use Rattle.std.proofs.Common.{◌≡◌, ℕ, ◌/◌, inl, inr, List, [], ◌∷◌, Some, refl, ap, sym, subst, ◌∙◌, arith}
use Rattle.std.specs.Prelude.{Bool, true, false, ◌==◌, ◌||◌, if◌then◌else◌, ℤ, pos, negsuc, int_le, slice_get}
use Rattle.std.specs.List.{flat_map}
use Rattle.std.proofs.lemmas.Bool.Decides.{Decides-eqb}
use Rattle.type_terms.specs.declared.term.Primitive.TheVariants as prim
use Rattle.il_lexer.specs.declared.types.TokenKind.TheVariants as kind
use Rattle.ilasm_grammar.specs.Ilasm.{ilasm, rule_by}
use Rattle.ilasm_grammar.specs.declared.productions.TheConstants.{BRACKETED_INT, DATA_ITEM_BYTES, DATA_ITEM_DATA_NUM, DATA_NUM_FLOAT32, DATA_NUM_INT_TYPE, INT_TYPE_INT8, INT_TYPE_INT16, INT_TYPE_INT32, INT_TYPE_INT64, INT_TYPE_UINT8, INT_TYPE_UINT16, INT_TYPE_UINT32, PARENTHESIZED_INT, UNSIGNED_INT_INT8, UNSIGNED_INT_INT16, UNSIGNED_INT_INT32}
use Rattle.ilasm_grammar.specs.declared.terminals.TheConstants as t
use Rattle.source_model.specs.Constants.{bits_of, wrapped}
use Rattle.source_model.specs.Data.{item_bits, item_bytes, item_count, item_value, little_bytes, repeated}
use Rattle.source_model.specs.Forest.{Forest, Part, each, has, is_among, leaf_at, parts, the}
use Rattle.source_model.specs.OutOfRange.{fits_width, is_32_bits, is_repeat}
use Rattle.source_model.specs.Source.{Source}
use Rattle.source_model.specs.TypeRules.{unless}
use Rattle.source_model.specs.Types.{int_type}
use Rattle.source_model.specs.Values.{array_bytes, int_at}
use Rattle.source_nodes.specs.Derived.{FitsBody}
use Rattle.source_nodes.specs.Readers.{IsOf}
use Rattle.source_syntax.proofs.NameTokens.{terminals_of_rule}
use Rattle.source_nodes.proofs.Empties.{nothing_in}
use Rattle.source_nodes.proofs.WrittenNames.{both_true}
use Rattle.source_flags.specs.InRange.{IsInRange}
use Rattle.source_flags.proofs.Bits.{passes_at}
use Rattle.lower_manifest.proofs.KeyLemmas.{only}
use Rattle.lower_manifest.proofs.PlaceLemmas.{nothing_of_first}
use Rattle.lower_manifest.proofs.Tokens.{array_at}
use Rattle.lower_members.specs.DataItems.{IsItem, IsWidth}

-- ---- widths

int_width : (a b c d e f g : Bool) → IsWidth (bits_of (if a then prim.I1 else if b then prim.I2 else if c then prim.I4 else if d then prim.I8 else if e then prim.U1 else if f then prim.U2 else if g then prim.U4 else prim.U8))
int_width true b c d e f g = inl refl
int_width false true c d e f g = inr (inl refl)
int_width false false true d e f g = inr (inr (inl refl))
int_width false false false true e f g = inr (inr (inr refl))
int_width false false false false true f g = inl refl
int_width false false false false false true g = inr (inl refl)
int_width false false false false false false true = inr (inr (inl refl))
int_width false false false false false false false = inr (inr (inr refl))

int_type_width : (f : Forest) → IsWidth (bits_of (int_type f))
int_type_width f =
    int_width (has INT_TYPE_INT8 f) (has INT_TYPE_INT16 f) (has INT_TYPE_INT32 f) (has INT_TYPE_INT64 f) (has INT_TYPE_UINT8 f || has UNSIGNED_INT_INT8 f)
    (has INT_TYPE_UINT16 f || has UNSIGNED_INT_INT16 f) (has INT_TYPE_UINT32 f || has UNSIGNED_INT_INT32 f)

pub item_width : (f : Forest) → IsWidth (item_bits f)
item_width f = go (has DATA_NUM_INT_TYPE f) (has DATA_NUM_FLOAT32 f)
  where
    go : (c d : Bool) → IsWidth (if c then bits_of (int_type (the DATA_NUM_INT_TYPE f)) else if d then 32 else 64)
    go true d = int_type_width (the DATA_NUM_INT_TYPE f)
    go false true = inr (inr (inl refl))
    go false false = inr (inr (inr refl))

-- ---- bytes

first_bytes : slice_get (terminals_of_rule (ilasm DATA_ITEM_BYTES)) 0 ≡ Some t.BYTE_ARRAY
unfolding ilasm rule_by
first_bytes = refl

pub item_array : (s : Source) (p : Part) → (p.production == DATA_ITEM_BYTES) ≡ true → IsItem s p → IsOf s kind.ByteArray (leaf_at 0 p.below)
item_array s p e h =
    array_at s DATA_ITEM_BYTES 0 p.below first_bytes (subst (λ q. FitsBody s q p.below) ((Decides-eqb p.production DATA_ITEM_BYTES).0 e) h.1.fits)

-- ---- numbers

pub item_number : (s : Source) (p : Part) → (p.production == DATA_ITEM_BYTES) ≡ false → IsItem s p → IsInRange s DATA_ITEM_DATA_NUM p.below
item_number s p e h = subst (λ q. IsInRange s q p.below) (go (DATA_ITEM_BYTES == p.production) refl h.0) h.1
  where
    go : (c : Bool) → (DATA_ITEM_BYTES == p.production) ≡ c → (c || is_among (DATA_ITEM_DATA_NUM ∷ []) p.production) ≡ true → p.production ≡ DATA_ITEM_DATA_NUM
    go true is i = absurd (true_is_not_false (sym ((Decides-eqb p.production DATA_ITEM_BYTES).1 (sym ((Decides-eqb DATA_ITEM_BYTES p.production).0 is))) ∙ e))
      where
        true_is_not_false : true ≡ false → ⊥
        true_is_not_false x = absurd cc
    go false is i = only DATA_ITEM_DATA_NUM p.production i

repeat_fits : (z : ℤ) → is_repeat z ≡ true → is_32_bits z ≡ true
repeat_fits (pos n) e = go n (both_true (int_le (pos 0) (pos n)) (int_le (pos n) (pos 67108864)) e).1
  where
    go : (m : ℕ) → int_le (pos m) (pos 67108864) ≡ true → is_32_bits (pos m) ≡ true
    go m h = search (arith, h)
repeat_fits (negsuc n) e = absurd cc

pub count_fits : (s : Source) (f : Forest) → IsInRange s DATA_ITEM_DATA_NUM f → has BRACKETED_INT f ≡ true → is_32_bits (int_at s (leaf_at 1 (the BRACKETED_INT f))) ≡ true
count_fits s f h some =
    let none = (nothing_in (flat_map (λ g. unless (fits_width (item_bits f)) s (leaf_at 1 g)) (each PARENTHESIZED_INT f)) (flat_map (λ g. unless is_repeat s (leaf_at 1 g)) (each BRACKETED_INT f)) h.data-numbers).1 in
    repeat_fits (int_at s (leaf_at 1 (the BRACKETED_INT f)))
    (passes_at is_repeat s (leaf_at 1 (the BRACKETED_INT f)) (nothing_of_first (λ g. unless is_repeat s (leaf_at 1 g)) (parts (BRACKETED_INT ∷ []) f) none some))

-- ---- the bytes of an item

abbrev bytes_by : Bool → Source → Part → List ℕ
bytes_by c s p =
    if c then array_bytes s (leaf_at 0 p.below)
    else repeated (item_count s p.below) (little_bytes (item_bits p.below / 8) (wrapped (item_bits p.below) (item_value s p.below)))

pub bytes_of_array : (s : Source) (p : Part) → (p.production == DATA_ITEM_BYTES) ≡ true → item_bytes s p ≡ array_bytes s (leaf_at 0 p.below)
bytes_of_array s p e = ap (λ c. bytes_by c s p) e

pub bytes_of_number : (s : Source) (p : Part) → (p.production == DATA_ITEM_BYTES) ≡ false
    → item_bytes s p ≡ repeated (item_count s p.below) (little_bytes (item_bits p.below / 8) (wrapped (item_bits p.below) (item_value s p.below)))
bytes_of_number s p e = ap (λ c. bytes_by c s p) e
