-- Constants (ECMA-335 II.16.2, II.22.9).
use Rattle.std.specs.Prelude.{ℕ, ◌-◌, ◌%◌, ◌^◌, nat_lt, Bool, true, false, if◌then◌else◌, ℤ, pos, negsuc, ◌-ℤ◌, List, ◌∷◌, map, Option, None, Some}
use Rattle.type_terms.specs.declared.term.Primitive.{Primitive}
use Rattle.type_terms.specs.declared.term.Primitive.TheVariants as prim
use Rattle.assembly_tree.specs.declared.members.Constant.{Constant}
use Rattle.assembly_tree.specs.declared.members.Constant.TheVariants as constant
use Rattle.ilasm_grammar.specs.declared.productions.TheConstants.{
  TEXT,
  PLUS_STRING,
  CONST_INT_TYPE,
  CONST_FLOAT32,
  CONST_FLOAT64,
  CONST_CHAR,
  CONST_BOOL,
  CONST_TEXT,
  CONST_BYTES,
  TRUTH_TRUE,
  EQ_CONST,
}
use Rattle.source_model.specs.Forest.{Forest, each, has, the, leaf_at, last_token}
use Rattle.source_model.specs.Shapes.{natural}
use Rattle.source_model.specs.Source.{Source}
use Rattle.source_model.specs.Types.{int_type}
use Rattle.source_model.specs.Values.{int_at, string_bytes, units, units_of_bytes, array_bytes}

-- ---- numbers in a width

-- a number modulo 2 to the width
abbrev pub wrapped : ℕ → ℤ → ℕ
wrapped width (pos n) = n % 2 ^ width
wrapped width (negsuc n) = (2 ^ width - 1) - n % 2 ^ width

-- the signed number of that width that it is congruent to
abbrev pub signed_of : ℕ → ℕ → ℤ
signed_of width n = if nat_lt n (2 ^ (width - 1)) then pos n else pos n -ℤ pos (2 ^ width)

abbrev pub signed_wrapped : ℕ → ℤ → ℤ
signed_wrapped width z = signed_of width (wrapped width z)

-- the bits of an integer type
abbrev pub bits_of : Primitive → ℕ
bits_of prim.I1 = 8
bits_of prim.U1 = 8
bits_of prim.I2 = 16
bits_of prim.U2 = 16
bits_of prim.I4 = 32
bits_of prim.U4 = 32
bits_of prim.I8 = 64
bits_of prim.U8 = 64
bits_of p = 0

abbrev pub is_signed : Primitive → Bool
is_signed prim.I1 = true
is_signed prim.I2 = true
is_signed prim.I4 = true
is_signed prim.I8 = true
is_signed p = false

-- the number that an integer type holds: signed for a signed type, else without a sign
abbrev pub integer_of : Primitive → ℤ → ℤ
integer_of p z = if is_signed p then signed_wrapped (bits_of p) z else pos (wrapped (bits_of p) z)

-- ---- strings

-- the tokens of a string, whose pieces `+` joins
abbrev pub string_tokens : Forest → List ℕ
string_tokens f = leaf_at 0 f ∷ map (λ g. leaf_at 1 g) (each PLUS_STRING f)

-- a string in UTF-8, and in units of UTF-16, from what stands below its production
abbrev pub text_in : Source → Forest → List ℕ
text_in s f = string_bytes s (string_tokens f)

abbrev pub units_in : Source → Forest → List ℕ
units_in s f = units (text_in s f)

-- ---- constants

-- the number in parentheses, which is the last token but one
abbrev pub const_token : Forest → ℕ
const_token f = last_token f - 1

-- a constant, from a forest that holds it: a number in the width of its type, the bits of a real number, a string by its
-- units, or by bytes of which two make a unit
abbrev pub constant_in : Source → Forest → Constant
constant_in s f =
    if has CONST_INT_TYPE f then constant.Int (int_type (the CONST_INT_TYPE f)) (integer_of (int_type (the CONST_INT_TYPE f)) (int_at s (const_token (the CONST_INT_TYPE f))))
    else if has CONST_FLOAT32 f then constant.Real4 (wrapped 32 (int_at s (const_token (the CONST_FLOAT32 f))))
    else if has CONST_FLOAT64 f then constant.Real8 (wrapped 64 (int_at s (const_token (the CONST_FLOAT64 f))))
    else if has CONST_CHAR f then constant.Char (natural (int_at s (const_token (the CONST_CHAR f))))
    else if has CONST_BOOL f then constant.Bool (has TRUTH_TRUE f)
    else if has CONST_TEXT f then constant.Str (units_in s (the TEXT f))
    else if has CONST_BYTES f then constant.Str (units_of_bytes (array_bytes s (leaf_at 0 (the CONST_BYTES f))))
    else constant.Null

-- the constant behind `=`, where there is one
abbrev pub constant_of : Source → Forest → Option Constant
constant_of s f = if has EQ_CONST f then Some (constant_in s (the EQ_CONST f)) else None
