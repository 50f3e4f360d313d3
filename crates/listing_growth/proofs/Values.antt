-- Strings, constants, attributes and data grow.
use Rattle.std.proofs.Common.{◌≡◌, ℕ, Bool, true, false, cond, List, [], ◌∷◌, Option, None, Some, refl}
use Rattle.ilasm_grammar.specs.Ilasm.{ilasm, rule_by}
use Rattle.ilasm_grammar.specs.declared.nonterminals.TheConstants as n
use Rattle.ilasm_grammar.specs.declared.productions.TheConstants as p
use Rattle.ilasm_grammar.specs.declared.symbol.Symbol.{Symbol}
use Rattle.ilasm_grammar.specs.declared.symbol.Symbol.TheVariants.{Nonterminal}
use Rattle.il_lexer.specs.declared.types.TokenKind.TheVariants as kind
use Rattle.il_lexer.specs.declared.word.TheConstants as word
use Rattle.assembly_tree.specs.declared.assembly.ExternAssembly.{ExternAssembly}
use Rattle.assembly_tree.specs.declared.members.Attribute.{Attribute}
use Rattle.assembly_tree.specs.declared.members.Constant as constant
use Rattle.listing_leaves.specs.Bytes.{equals_bytes, byte_array}
use Rattle.listing_leaves.specs.Numbers.{data_label}
use Rattle.listing_leaves.specs.Texts.{quoted_units, is_simple_string, unit_bytes}
use Rattle.listing_model.specs.Grown.{body_of, Grows}
use Rattle.listing_model.specs.Shown.{Shown, none, item, put, w, token, branch, optional}
use Rattle.listing_model.specs.Values.{one_string, truth, constant_item, equals_constant, constant_opt, custom, data_line}
use Rattle.listing_growth.specs.Laws.{Stands, ValuesStand}
use Rattle.listing_growth.specs.Standing.{method_stands}
use Rattle.listing_growth.proofs.Rows.{IsOption, OptionGrows, optional_grows, IsRow, star_grows}
use Rattle.listing_growth.proofs.References.{method_ref_stands}
use Rattle.listing_growth.proofs.Types.{int_stands}

plus_row : IsRow n.PLUS_STRING_STAR n.PLUS_STRING p.PLUS_STRING_STAR_MORE p.PLUS_STRING_STAR_END
unfolding ilasm rule_by
plus_row = record { more_head = refl; more_body = refl; end_head = refl; end_body = refl }

pub string_stands : (text : List ℕ) → Stands n.TEXT (one_string text)
unfolding ilasm rule_by
string_stands text = (refl, (refl, star_grows plus_row [] tt [] none tt))

truth_stands : (b : Bool) → Stands n.TRUTH (truth b)
unfolding ilasm rule_by
truth_stands true = (refl, (refl, tt))
truth_stands false = (refl, (refl, tt))

text_by : (units : List ℕ) (b : Bool) →
    Stands n.CONST (cond b (item p.CONST_TEXT (put (one_string (quoted_units units)) none)) (item p.CONST_BYTES (token kind.ByteArray (byte_array (unit_bytes units)) none)))
unfolding ilasm rule_by
text_by units true = let s = string_stands (quoted_units units) in (refl, (s.0, s.1, tt))
text_by units false = (refl, (refl, tt))

constant_stands : (c : constant.Constant) → Stands n.CONST (constant_item c)
unfolding ilasm rule_by
constant_stands (constant.TheVariants.Bool b) = let t = truth_stands b in (refl, (refl, (refl, (t.0, t.1, (refl, tt)))))
constant_stands (constant.TheVariants.Char c) = (refl, (refl, (refl, (refl, (refl, tt)))))
constant_stands (constant.TheVariants.Int of k) = let t = int_stands of in (refl, (t.0, t.1, (refl, (refl, (refl, tt)))))
constant_stands (constant.TheVariants.Real4 bits) = (refl, (refl, (refl, (refl, (refl, tt)))))
constant_stands (constant.TheVariants.Real8 bits) = (refl, (refl, (refl, (refl, (refl, tt)))))
constant_stands (constant.TheVariants.Str units) = text_by units (is_simple_string units)
constant_stands constant.TheVariants.Null = (refl, (refl, tt))

constant_option : IsOption n.EQ_CONST_OPT p.EQ_CONST_OPT_SOME p.EQ_CONST_OPT_NONE (Nonterminal n.EQ_CONST ∷ [])
unfolding ilasm rule_by
constant_option = record { some_head = refl; some_body = refl; none_head = refl; none_body = refl }

equals_grows : (c : Option constant.Constant) → OptionGrows (Nonterminal n.EQ_CONST ∷ []) (equals_constant c)
unfolding ilasm rule_by
equals_grows None = tt
equals_grows (Some c) = let s = constant_stands c in (refl, (refl, (s.0, s.1, tt)), tt)

pub constant_grows : (c : Option constant.Constant) (more : List Symbol) (after : Shown) → Grows more after →
    Grows (Nonterminal n.EQ_CONST_OPT ∷ more) (constant_opt c after)
constant_grows c more after h = optional_grows constant_option (equals_constant c) (equals_grows c) more after h

bytes_option : IsOption n.EQ_BYTES_OPT p.EQ_BYTES_OPT_SOME p.EQ_BYTES_OPT_NONE (body_of p.EQ_BYTES_OPT_SOME)
unfolding ilasm rule_by
bytes_option = record { some_head = refl; some_body = refl; none_head = refl; none_body = refl }

pub custom_stands : (externs : List ExternAssembly) (a : Attribute) → method_stands a.constructor ≡ true → Stands n.CUSTOM (custom externs a)
unfolding ilasm rule_by
custom_stands externs a h =
    let r = method_ref_stands externs a.constructor h in
    (refl, (refl, (r.0, r.1, optional_grows bytes_option (Some (token kind.EqBytes (equals_bytes a.value) none)) (refl, tt) [] none tt)))

cil_option : IsOption n.CIL_OPT p.CIL_OPT_SOME p.CIL_OPT_NONE (body_of p.CIL_OPT_SOME)
unfolding ilasm rule_by
cil_option = record { some_head = refl; some_body = refl; none_head = refl; none_body = refl }

label_option : IsOption n.DATA_LABEL_OPT p.DATA_LABEL_OPT_SOME p.DATA_LABEL_OPT_NONE (Nonterminal n.DATA_LABEL ∷ [])
unfolding ilasm rule_by
label_option = record { some_head = refl; some_body = refl; none_head = refl; none_body = refl }

abbrev data_body : List ℕ → Shown
data_body bytes = branch p.DATA_BODY_DATA_ITEM (branch p.DATA_ITEM_BYTES (token kind.ByteArray (byte_array bytes) none) none) none

abbrev data_name : ℕ → Shown
data_name k = branch p.DATA_LABEL (token kind.Name (data_label k) (w word.EQUALS none)) none

data_stands : (k : ℕ) (bytes : List ℕ) → Stands n.DECL (data_line k bytes)
unfolding ilasm rule_by
data_stands k bytes = (
  refl,
  (
    refl,
    (
      refl,
      optional_grows cil_option None tt (Nonterminal n.DATA_LABEL_OPT ∷ Nonterminal n.DATA_BODY ∷ [])
          (optional p.DATA_LABEL_OPT_SOME p.DATA_LABEL_OPT_NONE (Some (data_name k)) (data_body bytes))
          (optional_grows label_option (Some (data_name k)) (refl, (refl, (refl, tt)), tt) (Nonterminal n.DATA_BODY ∷ []) (data_body bytes)
          (refl, (refl, (refl, tt), tt), tt)),
    ),
    tt,
  ),
)

pub values_stand : ValuesStand
values_stand = record { constants = constant_stands; attributes = custom_stands; contents = data_stands }
