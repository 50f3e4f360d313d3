-- Constants are read back.
use Rattle.std.proofs.Common.{◌≡◌, ℕ, suc, ◌+◌, ◌-◌, ◌^◌, ◌<◌, Bool, true, false, cond, if◌then◌else◌, ℤ, pos, List, [], ◌∷◌, Option, None, Some, refl, ap, ◌∙◌, arith}
use Rattle.std.proofs.Math.Nat.{mod-eq_of_lt}
use Rattle.std.proofs.lemmas.Bool.{false≢true, ltb-true}
use Rattle.ilasm_grammar.specs.declared.productions.TheConstants as p
use Rattle.il_lexer.specs.declared.types.TokenKind.TheVariants as kind
use Rattle.type_terms.specs.declared.term.Primitive.{Primitive}
use Rattle.type_terms.specs.declared.term.Primitive.TheVariants as prim
use Rattle.assembly_tree.specs.WellFormedMembers.{is_integer, is_constant}
use Rattle.assembly_tree.specs.WellFormedNames.{option_all}
use Rattle.assembly_tree.specs.declared.members.Constant.{Constant}
use Rattle.assembly_tree.specs.declared.members.Constant.TheVariants as constant
use Rattle.source_model.specs.Constants as read
use Rattle.source_model.specs.Forest as f
use Rattle.source_model.specs.Shapes.{natural}
use Rattle.source_model.specs.Source.{Source, spelling}
use Rattle.source_model.specs.Values.{int_at, integer}
use Rattle.listing_growth.specs.Held.{are_units, is_constant_held}
use Rattle.listing_leaves.specs.Bytes.{byte_array}
use Rattle.listing_leaves.specs.Numbers as numbers
use Rattle.listing_leaves.specs.Texts.{quoted_units, is_simple_string, unit_bytes}
use Rattle.listing_model.specs.Shown.{Item, item, none, put, token, opt_below}
use Rattle.listing_model.specs.Values.{one_string, constant_item, equals_constant}
use Rattle.listing_reading.specs.Numbered.{numbered, Agrees}
use Rattle.listing_values.specs.Laws.{NumbersAreRead}
use Rattle.listing_constants.specs.Laws.{constant_there, StringsAreRead, ConstantsAreRead}
use Rattle.listing_constants.proofs.Integers.{integer_is, small_integer}

one_less : (k : ℕ) → suc k - 1 ≡ k
one_less k = omega arith

module _ (laws : NumbersAreRead) (strings : StringsAreRead) (s : Source) where
  abbrev Reads : Item → Constant → Type 0
  Reads i c = (at : ℕ) → Agrees s at (put i none) → read.constant_in s (numbered at (put i none)) ≡ c

  -- ---- numbers

  integer_at : (of : Primitive) (n : ℤ) → is_integer of n ≡ true → (k : ℕ) → spelling s k ≡ numbers.integer n →
      constant.Int of (read.integer_of of (int_at s (suc k - 1))) ≡ constant.Int of n
  integer_at of n h k e =
      ap (λ j. constant.Int of (read.integer_of of (int_at s j))) (one_less k)
      ∙ (ap (λ z. constant.Int of (read.integer_of of z)) (ap (λ t. integer t) e ∙ laws.integer n (small_integer of n h)) ∙ ap (constant.Int of) (integer_is of n h))

  natural_at : (width n : ℕ) → n < 2 ^ 128 → (k : ℕ) → spelling s k ≡ numbers.hexadecimal width n → int_at s (suc k - 1) ≡ pos n
  natural_at width n h k e = ap (int_at s) (one_less k) ∙ (ap (λ t. integer t) e ∙ laws.hexadecimal width n h)

  small_16 : (n : ℕ) → n < 0x10000 → n < 2 ^ 128
  small_16 n h = omega arith

  small_32 : (n : ℕ) → n < 0x100000000 → n < 2 ^ 128
  small_32 n h = omega arith

  small_64 : (n : ℕ) → n < 0x10000000000000000 → n < 2 ^ 128
  small_64 n h = omega arith

  char_read : (c : ℕ) → c < 0x10000 → Reads (constant_item (constant.Char c)) (constant.Char c)
  char_read c h at ag = ap (λ z. constant.Char (natural z)) (natural_at 4 c (small_16 c h) (suc (suc at)) ag.0.1.1.0.text)

  real_4 : (n : ℕ) → n < 0x100000000 → Reads (constant_item (constant.Real4 n)) (constant.Real4 n)
  real_4 n h at ag =
      ap (λ z. constant.Real4 (read.wrapped 32 z)) (natural_at 8 n (small_32 n h) (suc (suc at)) ag.0.1.1.0.text) ∙ ap constant.Real4 (mod-eq_of_lt h)

  real_8 : (n : ℕ) → n < 0x10000000000000000 → Reads (constant_item (constant.Real8 n)) (constant.Real8 n)
  real_8 n h at ag =
      ap (λ z. constant.Real8 (read.wrapped 64 z)) (natural_at 16 n (small_64 n h) (suc (suc at)) ag.0.1.1.0.text) ∙ ap constant.Real8 (mod-eq_of_lt h)

  int_read : (of : Primitive) (n : ℤ) → is_integer of n ≡ true → Reads (constant_item (constant.Int of n)) (constant.Int of n)
  int_read prim.I1 n h at ag = integer_at prim.I1 n h (suc (at + 1)) ag.0.1.1.0.text
  int_read prim.I2 n h at ag = integer_at prim.I2 n h (suc (at + 1)) ag.0.1.1.0.text
  int_read prim.I4 n h at ag = integer_at prim.I4 n h (suc (at + 1)) ag.0.1.1.0.text
  int_read prim.I8 n h at ag = integer_at prim.I8 n h (suc (at + 1)) ag.0.1.1.0.text
  int_read prim.U1 n h at ag = integer_at prim.U1 n h (suc (at + 1)) ag.0.1.1.0.text
  int_read prim.U2 n h at ag = integer_at prim.U2 n h (suc (at + 1)) ag.0.1.1.0.text
  int_read prim.U4 n h at ag = integer_at prim.U4 n h (suc (at + 1)) ag.0.1.1.0.text
  int_read prim.U8 n h at ag = integer_at prim.U8 n h (suc (at + 1)) ag.0.1.1.0.text
  int_read prim.Void n h at ag = absurd (false≢true h)
  int_read prim.Bool n h at ag = absurd (false≢true h)
  int_read prim.Char n h at ag = absurd (false≢true h)
  int_read prim.R4 n h at ag = absurd (false≢true h)
  int_read prim.R8 n h at ag = absurd (false≢true h)
  int_read prim.Str n h at ag = absurd (false≢true h)
  int_read prim.Object n h at ag = absurd (false≢true h)
  int_read prim.TypedRef n h at ag = absurd (false≢true h)
  int_read prim.NInt n h at ag = absurd (false≢true h)
  int_read prim.NUint n h at ag = absurd (false≢true h)

  -- ---- strings

  string_by : (us : List ℕ) → are_units us ≡ true → (b : Bool) → is_simple_string us ≡ b →
      Reads (cond b (item p.CONST_TEXT (put (one_string (quoted_units us)) none)) (item p.CONST_BYTES (token kind.ByteArray (byte_array (unit_bytes us)) none))) (constant.Str us)
  string_by us h true e at ag = ap constant.Str (strings.simple s us e at ag.0)
  string_by us h false e at ag = ap constant.Str (strings.bytes s us h at ag.0.0.text)

  -- ---- all of them

  constant_read : (c : Constant) → is_constant c ≡ true → is_constant_held c ≡ true → Reads (constant_item c) c
  unfolding is_constant_held
  constant_read (constant.Bool true) h k at ag = refl
  constant_read (constant.Bool false) h k at ag = refl
  constant_read (constant.Char c) h k at ag = char_read c (ltb-true c 0x10000 k) at ag
  constant_read (constant.Int of n) h k at ag = int_read of n h at ag
  constant_read (constant.Real4 n) h k at ag = real_4 n (ltb-true n 0x100000000 k) at ag
  constant_read (constant.Real8 n) h k at ag = real_8 n (ltb-true n 0x10000000000000000 k) at ag
  constant_read (constant.Str us) h k at ag = string_by us k (is_simple_string us) refl at ag
  constant_read constant.Null h k at ag = refl

  there : (c : Option Constant) → option_all is_constant c ≡ true → option_all is_constant_held c ≡ true → (at : ℕ) → Agrees s at (opt_below (equals_constant c)) →
      (g after : f.Forest) → f.parts (p.EQ_CONST ∷ []) g ≡ f.parts (p.EQ_CONST ∷ []) (constant_there c at after) → f.parts (p.EQ_CONST ∷ []) after ≡ [] →
      read.constant_of s g ≡ c
  there None h k at ag g after e empty =
      ap (λ ps. if f.is_any_part ps then Some (read.constant_in s (f.first_or f.none (f.below_each ps))) else None) (e ∙ empty)
  there (Some c) h k at ag g after e empty =
      ap (λ ps. if f.is_any_part ps then Some (read.constant_in s (f.first_or f.none (f.below_each ps))) else None) e
      ∙ ap Some (constant_read c h k (suc at) ag.0.1)

pub constants_are_read : NumbersAreRead → StringsAreRead → ConstantsAreRead
constants_are_read laws strings = record { integers = integer_is; small = small_integer; one = λ s. constant_read laws strings s; there = λ s. there laws strings s }
