-- Strings, constants, attributes and data in a listing (ECMA-335 II.16.2, II.16.3, II.21, II.22.9).
use Rattle.std.specs.Prelude.{ℕ, Bool, true, false, if◌then◌else◌, List, [], map, Option, None, Some}
use Rattle.il_lexer.specs.declared.types.TokenKind.TheVariants as kind
use Rattle.il_lexer.specs.declared.word.TheConstants as word
use Rattle.ilasm_grammar.specs.declared.productions.TheConstants as p
use Rattle.assembly_tree.specs.declared.assembly.ExternAssembly.{ExternAssembly}
use Rattle.assembly_tree.specs.declared.members.Attribute.{Attribute}
use Rattle.assembly_tree.specs.declared.members.Constant as constant
use Rattle.listing_leaves.specs.Bytes.{equals_bytes, byte_array}
use Rattle.listing_leaves.specs.Numbers.{hexadecimal, integer, data_label}
use Rattle.listing_leaves.specs.Texts.{quoted_units, is_simple_string, unit_bytes}
use Rattle.listing_model.specs.Shown.{Shown, none, branch, Item, item, put, token, w, line, optional, star}
use Rattle.listing_model.specs.Types.{int_type}
use Rattle.listing_model.specs.References.{method_ref}

-- ---- strings

-- one text in double quotes, as what stands for `Str`
abbrev pub one_string : List ℕ → Item
one_string text = item p.TEXT (token kind.QString text (star p.PLUS_STRING_STAR_MORE p.PLUS_STRING_STAR_END [] none))

-- units as a string, below one of two productions: in double quotes, or by their bytes
abbrev pub string_below : ℕ → ℕ → List ℕ → Item
string_below text bytes units =
    if is_simple_string units then item text (put (one_string (quoted_units units)) none)
    else item bytes (token kind.ByteArray (byte_array (unit_bytes units)) none)

-- ---- constants

-- `(n)`
abbrev pub number_in_parentheses : List ℕ → Shown
number_in_parentheses text = w word.OPEN_PAREN (token kind.Int text (w word.CLOSE_PAREN none))

abbrev pub truth : Bool → Item
truth true = item p.TRUTH_TRUE (w word.TRUE none)
truth false = item p.TRUTH_FALSE (w word.FALSE none)

abbrev pub constant_item : constant.Constant → Item
constant_item (constant.TheVariants.Bool b) =
    item p.CONST_BOOL (w word.BOOL (w word.OPEN_PAREN (put (truth b) (w word.CLOSE_PAREN none))))
constant_item (constant.TheVariants.Char c) = item p.CONST_CHAR (w word.CHAR (number_in_parentheses (hexadecimal 4 c)))
constant_item (constant.TheVariants.Int of n) = item p.CONST_INT_TYPE (put (int_type of) (number_in_parentheses (integer n)))
constant_item (constant.TheVariants.Real4 bits) = item p.CONST_FLOAT32 (w word.FLOAT32 (number_in_parentheses (hexadecimal 8 bits)))
constant_item (constant.TheVariants.Real8 bits) = item p.CONST_FLOAT64 (w word.FLOAT64 (number_in_parentheses (hexadecimal 16 bits)))
constant_item (constant.TheVariants.Str units) = string_below p.CONST_TEXT p.CONST_BYTES units
constant_item constant.TheVariants.Null = item p.CONST_NULLREF (w word.NULLREF none)

abbrev pub equals_constant : Option constant.Constant → Option Shown
equals_constant None = None
equals_constant (Some c) = Some (branch p.EQ_CONST (w word.EQUALS (put (constant_item c) none)) none)

-- `= c`, where there is a constant
abbrev pub constant_opt : Option constant.Constant → Shown → Shown
constant_opt c after = optional p.EQ_CONST_OPT_SOME p.EQ_CONST_OPT_NONE (equals_constant c) after

-- ---- attributes

module _ (externs : List ExternAssembly) where
  -- a line, as what stands for `Custom`: an attribute always has its bytes
  abbrev pub custom : Attribute → Item
  custom a =
      item p.CUSTOM
      (line word.DOT_CUSTOM
      (put (method_ref externs a.constructor)
      (optional p.EQ_BYTES_OPT_SOME p.EQ_BYTES_OPT_NONE (Some (token kind.EqBytes (equals_bytes a.value) none)) none)))

  -- such lines, each below this production
  abbrev pub customs : ℕ → List Attribute → List Item
  customs production attributes = map (λ a. item production (put (custom a) none)) attributes

-- ---- data (II.16.3)

-- `D_k = bytearray (..)`, a line
abbrev pub data_line : ℕ → List ℕ → Item
data_line k bytes =
    item p.DECL_DATA
    (branch p.DATA
    (line word.DOT_DATA
    (optional p.CIL_OPT_SOME p.CIL_OPT_NONE None
    (optional p.DATA_LABEL_OPT_SOME p.DATA_LABEL_OPT_NONE
    (Some (branch p.DATA_LABEL (token kind.Name (data_label k) (w word.EQUALS none)) none))
    (branch p.DATA_BODY_DATA_ITEM (branch p.DATA_ITEM_BYTES (token kind.ByteArray (byte_array bytes) none) none) none))))
    none)
