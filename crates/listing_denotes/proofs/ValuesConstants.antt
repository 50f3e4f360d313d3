-- Constants break no rule.
use Rattle.std.proofs.Common.{◌≡◌, ℕ, suc, ◌+◌, ◌-◌, ◌<◌, ◌≤◌, ◌^◌, Bool, true, false, cond, ℤ, pos, List, [], Option, None, Some, refl, ap, ◌∙◌, arith}
use Rattle.std.proofs.lemmas.Bool.{false≢true, ltb-true}
use Rattle.ilasm_grammar.specs.declared.productions.TheConstants as p
use Rattle.type_terms.specs.declared.term.Primitive.TheVariants as prim
use Rattle.type_terms.specs.declared.term.Primitive.{Primitive}
use Rattle.assembly_tree.specs.WellFormedMembers.{is_integer, is_constant}
use Rattle.assembly_tree.specs.WellFormedNames.{option_all}
use Rattle.assembly_tree.specs.declared.members.Constant as constant
use Rattle.assembly_tree.specs.declared.members.Constant.{Constant}
use Rattle.source_model.specs.Constants.{bits_of}
use Rattle.source_model.specs.Forest as f
use Rattle.source_model.specs.Nodes.{Around, nodes_in}
use Rattle.source_model.specs.OutOfRange.{fits_width, is_16_bits}
use Rattle.source_model.specs.Source.{Source, spelling}
use Rattle.source_model.specs.TypeRules.{unless}
use Rattle.source_model.specs.Values.{int_at, integer}
use Rattle.faultless_nodes.specs.Laws.{EachBreaksNothing, UnaskedBreakNothing}
use Rattle.listing_constants.specs.Laws.{ConstantsAreRead}
use Rattle.listing_growth.specs.Held.{is_constant_held}
use Rattle.listing_leaves.specs.Bytes.{byte_array}
use Rattle.listing_leaves.specs.Numbers as numbers
use Rattle.listing_leaves.specs.Texts.{quoted_units, is_simple_string, unit_bytes}
use Rattle.il_lexer.specs.declared.types.TokenKind.TheVariants as kind
use Rattle.listing_model.specs.Shown.{Shown, Item, item, none, put, token, size}
use Rattle.listing_model.specs.Values.{one_string, constant_item, constant_opt}
use Rattle.listing_reading.specs.Numbered.{numbered, Agrees}
use Rattle.listing_values.specs.Laws.{NumbersAreRead}
use Rattle.listing_denotes.specs.Values.{NumbersAlone, ConstantsBreakNothing}
use Rattle.listing_denotes.proofs.ValuesFlags.{within, unless_none}

one_less : (k : ℕ) → suc k - 1 ≡ k
one_less k = omega arith

-- ---- numbers that fit

integer_fits : (of : Primitive) (n : ℤ) → is_integer of n ≡ true → fits_width (bits_of of) n ≡ true
integer_fits prim.I1 n h = grind (arith, h)
integer_fits prim.U1 n h = grind (arith, h)
integer_fits prim.I2 n h = grind (arith, h)
integer_fits prim.U2 n h = grind (arith, h)
integer_fits prim.I4 n h = grind (arith, h)
integer_fits prim.U4 n h = grind (arith, h)
integer_fits prim.I8 n h = grind (arith, h)
integer_fits prim.U8 n h = grind (arith, h)
integer_fits prim.Void n h = absurd (false≢true h)
integer_fits prim.Bool n h = absurd (false≢true h)
integer_fits prim.Char n h = absurd (false≢true h)
integer_fits prim.R4 n h = absurd (false≢true h)
integer_fits prim.R8 n h = absurd (false≢true h)
integer_fits prim.Str n h = absurd (false≢true h)
integer_fits prim.Object n h = absurd (false≢true h)
integer_fits prim.TypedRef n h = absurd (false≢true h)
integer_fits prim.NInt n h = absurd (false≢true h)
integer_fits prim.NUint n h = absurd (false≢true h)

real_4_fits : (n : ℕ) → n < 0x100000000 → fits_width 32 (pos n) ≡ true
real_4_fits n h = grind (arith, h)

real_8_fits : (n : ℕ) → n < 0x10000000000000000 → fits_width 64 (pos n) ≡ true
real_8_fits n h = grind (arith, h)

small_16 : (n : ℕ) → n < 0x10000 → n < 2 ^ 128
small_16 n h = omega arith

small_32 : (n : ℕ) → n < 0x100000000 → n < 2 ^ 128
small_32 n h = omega arith

small_64 : (n : ℕ) → n < 0x10000000000000000 → n < 2 ^ 128
small_64 n h = omega arith

at_most : (n : ℕ) → n < 0x10000 → n ≤ 0xFFFF
at_most n h = omega arith

module _ (unasked : UnaskedBreakNothing) (laws : NumbersAreRead) (alone : NumbersAlone) (read : ConstantsAreRead) (s : Source) (a : Around) where
  abbrev Quiet : Item → Type 0
  Quiet i = (at : ℕ) → Agrees s at (put i none) → EachBreaksNothing s (nodes_in s a (numbered at (put i none)))

  -- the token of a number, and what it spells
  natural_at : (width n : ℕ) → n < 2 ^ 128 → (k : ℕ) → spelling s k ≡ numbers.hexadecimal width n → int_at s (suc k - 1) ≡ pos n
  natural_at width n h k e = ap (int_at s) (one_less k) ∙ (ap (λ t. integer t) e ∙ laws.hexadecimal width n h)

  integer_at : (of : Primitive) (n : ℤ) → is_integer of n ≡ true → (k : ℕ) → spelling s k ≡ numbers.integer n → int_at s (suc k - 1) ≡ n
  integer_at of n h k e = ap (int_at s) (one_less k) ∙ (ap (λ t. integer t) e ∙ laws.integer n (read.small of n h))

  char_quiet : (c : ℕ) → c < 0x10000 → Quiet (constant_item (constant.TheVariants.Char c))
  char_quiet c h at ag =
      let e = unless_none is_16_bits s (suc (suc (suc at)) - 1) (pos c) (natural_at 4 c (small_16 c h) (suc (suc at)) ag.0.1.1.0.text) (within 0xFFFF c (at_most c h)) in
      (alone s _ refl (simp e), tt)

  real_4 : (n : ℕ) → n < 0x100000000 → Quiet (constant_item (constant.TheVariants.Real4 n))
  real_4 n h at ag =
      let e = unless_none (fits_width 32) s (suc (suc (suc at)) - 1) (pos n) (natural_at 8 n (small_32 n h) (suc (suc at)) ag.0.1.1.0.text) (real_4_fits n h) in
      (alone s _ refl (simp e), tt)

  real_8 : (n : ℕ) → n < 0x10000000000000000 → Quiet (constant_item (constant.TheVariants.Real8 n))
  real_8 n h at ag =
      let e = unless_none (fits_width 64) s (suc (suc (suc at)) - 1) (pos n) (natural_at 16 n (small_64 n h) (suc (suc at)) ag.0.1.1.0.text) (real_8_fits n h) in
      (alone s _ refl (simp e), tt)

  -- a number of an integer type with one word
  abbrev fits_at : Primitive → ℤ → ℕ → Type 0
  fits_at of n k = unless (fits_width (bits_of of)) s (suc k - 1) ≡ []

  fit : (of : Primitive) (n : ℤ) → is_integer of n ≡ true → (k : ℕ) → spelling s k ≡ numbers.integer n → fits_at of n k
  fit of n h k e = unless_none (fits_width (bits_of of)) s (suc k - 1) n (integer_at of n h k e) (integer_fits of n h)

  int_quiet : (of : Primitive) (n : ℤ) → is_integer of n ≡ true → Quiet (constant_item (constant.TheVariants.Int of n))
  int_quiet prim.I1 n h at ag = let e = fit prim.I1 n h (suc (at + 1)) ag.0.1.1.0.text in (alone s _ refl (simp e), (unasked.node s _ refl, tt))
  int_quiet prim.I2 n h at ag = let e = fit prim.I2 n h (suc (at + 1)) ag.0.1.1.0.text in (alone s _ refl (simp e), (unasked.node s _ refl, tt))
  int_quiet prim.I4 n h at ag = let e = fit prim.I4 n h (suc (at + 1)) ag.0.1.1.0.text in (alone s _ refl (simp e), (unasked.node s _ refl, tt))
  int_quiet prim.I8 n h at ag = let e = fit prim.I8 n h (suc (at + 1)) ag.0.1.1.0.text in (alone s _ refl (simp e), (unasked.node s _ refl, tt))
  int_quiet prim.U1 n h at ag = let e = fit prim.U1 n h (suc (at + 1)) ag.0.1.1.0.text in (alone s _ refl (simp e), (unasked.node s _ refl, tt))
  int_quiet prim.U2 n h at ag = let e = fit prim.U2 n h (suc (at + 1)) ag.0.1.1.0.text in (alone s _ refl (simp e), (unasked.node s _ refl, tt))
  int_quiet prim.U4 n h at ag = let e = fit prim.U4 n h (suc (at + 1)) ag.0.1.1.0.text in (alone s _ refl (simp e), (unasked.node s _ refl, tt))
  int_quiet prim.U8 n h at ag = let e = fit prim.U8 n h (suc (at + 1)) ag.0.1.1.0.text in (alone s _ refl (simp e), (unasked.node s _ refl, tt))
  int_quiet prim.Void n h at ag = absurd (false≢true h)
  int_quiet prim.Bool n h at ag = absurd (false≢true h)
  int_quiet prim.Char n h at ag = absurd (false≢true h)
  int_quiet prim.R4 n h at ag = absurd (false≢true h)
  int_quiet prim.R8 n h at ag = absurd (false≢true h)
  int_quiet prim.Str n h at ag = absurd (false≢true h)
  int_quiet prim.Object n h at ag = absurd (false≢true h)
  int_quiet prim.TypedRef n h at ag = absurd (false≢true h)
  int_quiet prim.NInt n h at ag = absurd (false≢true h)
  int_quiet prim.NUint n h at ag = absurd (false≢true h)

  string_by : (us : List ℕ) → (b : Bool) →
      Quiet (cond b (item p.CONST_TEXT (put (one_string (quoted_units us)) none)) (item p.CONST_BYTES (token kind.ByteArray (byte_array (unit_bytes us)) none)))
  string_by us true at ag = unasked.forest s a (numbered at (put (item p.CONST_TEXT (put (one_string (quoted_units us)) none)) none)) refl
  string_by us false at ag = unasked.forest s a (numbered at (put (item p.CONST_BYTES (token kind.ByteArray (byte_array (unit_bytes us)) none)) none)) refl

  constant_quiet : (c : Constant) → is_constant c ≡ true → is_constant_held c ≡ true → Quiet (constant_item c)
  unfolding is_constant_held
  constant_quiet (constant.TheVariants.Bool true) h k at ag = unasked.forest s a (numbered at (put (constant_item (constant.TheVariants.Bool true)) none)) refl
  constant_quiet (constant.TheVariants.Bool false) h k at ag = unasked.forest s a (numbered at (put (constant_item (constant.TheVariants.Bool false)) none)) refl
  constant_quiet (constant.TheVariants.Char c) h k at ag = char_quiet c (ltb-true c 0x10000 k) at ag
  constant_quiet (constant.TheVariants.Int of n) h k at ag = int_quiet of n h at ag
  constant_quiet (constant.TheVariants.Real4 n) h k at ag = real_4 n (ltb-true n 0x100000000 k) at ag
  constant_quiet (constant.TheVariants.Real8 n) h k at ag = real_8 n (ltb-true n 0x10000000000000000 k) at ag
  constant_quiet (constant.TheVariants.Str us) h k at ag = string_by us (is_simple_string us) at ag
  constant_quiet constant.TheVariants.Null h k at ag = unasked.forest s a (numbered at (put (constant_item constant.TheVariants.Null) none)) refl

  there_quiet : (c : Option Constant) → option_all is_constant c ≡ true → option_all is_constant_held c ≡ true → (after : Shown) (at : ℕ) →
      Agrees s at (constant_opt c after) → ((k : ℕ) → Agrees s k after → EachBreaksNothing s (nodes_in s a (numbered k after))) →
      EachBreaksNothing s (nodes_in s a (numbered at (constant_opt c after)))
  there_quiet None h k after at ag r = (unasked.node s _ refl, r (at + 0) ag.1)
  there_quiet (Some c) h k after at ag r =
      let own = put (constant_item c) none in
      unasked.branch s a p.EQ_CONST_OPT_SOME (f.branch p.EQ_CONST (f.leaf at (numbered (suc at) own)) f.none) (numbered (at + (suc (size own) + 0)) after) (unasked.node s _ refl)
      (unasked.branch s a p.EQ_CONST (f.leaf at (numbered (suc at) own)) f.none (unasked.node s _ refl) (constant_quiet c h k (suc at) ag.0.0.1) tt)
      (r (at + (suc (size own) + 0)) ag.1)

pub constants_break_nothing : UnaskedBreakNothing → NumbersAreRead → NumbersAlone → ConstantsAreRead → ConstantsBreakNothing
constants_break_nothing unasked laws alone read = record {
  one = λ s a c h k at ag. constant_quiet unasked laws alone read s a c h k at ag;
  there = λ s a c h k after at ag r. there_quiet unasked laws alone read s a c h k after at ag r;
}
