-- Methods in a listing (ECMA-335 II.15, II.22.26, II.22.33).
use Rattle.std.specs.Prelude.{ℕ, suc, ◌==◌, ◌&&◌, ◌||◌, not, Bool, true, false, if◌then◌else◌, List, [], ◌∷◌, ◌++◌, length, map, find, is_some, Option, None, Some}
use Rattle.std.specs.List.{flat_map}
use Rattle.il_lexer.specs.declared.word.TheConstants as word
use Rattle.ilasm_grammar.specs.declared.nonterminals.TheConstants as n
use Rattle.ilasm_grammar.specs.declared.productions.TheConstants as p
use Rattle.type_terms.specs.declared.reference.MethodRef.{MethodRef}
use Rattle.type_terms.specs.declared.term.SigType.{SigType}
use Rattle.assembly_tree.specs.declared.assembly.ExternAssembly.{ExternAssembly}
use Rattle.assembly_tree.specs.declared.body.Body.{Body}
use Rattle.assembly_tree.specs.declared.members.Method.{Method}
use Rattle.assembly_tree.specs.declared.members.Param.{Param}
use Rattle.listing_model.specs.Bodies.{body}
use Rattle.listing_model.specs.Flags.{flag_items, flags_below, method_words, implementation_words, parameter_words}
use Rattle.listing_model.specs.Members.{typars_opt, typar_key, typar_lines, number_in_brackets, braces}
use Rattle.listing_model.specs.References.{convention, method_name, method_ref, no_param_flags, no_name}
use Rattle.listing_model.specs.Shown.{Shown, none, branch, Item, item, put, w, line, optional, when, star, commas}
use Rattle.listing_model.specs.Types.{name, type_of}
use Rattle.listing_model.specs.Values.{constant_opt, customs}

-- ---- parameters in the head

-- the row of a parameter, where it has one
abbrev pub row_of : List Param → ℕ → Option Param
row_of rows k = find (λ r. r.number == k) rows

abbrev pub param_flags : Option Param → Shown → Shown
param_flags None after = no_param_flags after
param_flags (Some r) after =
    star p.PARAM_ATTR_STAR_MORE p.PARAM_ATTR_STAR_END (flag_items n.PARAM_ATTR p.PARAM_ATTR_FLAGS parameter_words r.flags) after

abbrev pub param_name : Option Param → Shown
param_name None = no_name
param_name (Some r) = optional p.NAME_OPT_SOME p.NAME_OPT_NONE (when (not (length r.name == 0)) (name r.name none)) none

-- ---- lines of `.param`

-- A row has a line where it has number 0, a constant or attributes, or neither a name nor flags.
abbrev pub wants_line : Param → Bool
wants_line r =
    r.number == 0 || is_some r.constant || not (length r.attributes == 0) || (length r.name == 0 && r.flags == 0)

-- `flags(..)` stands in it for number 0 alone
abbrev pub line_flags : Param → Shown → Shown
line_flags r after =
    optional p.FLAGS_OPT_SOME p.FLAGS_OPT_NONE (when (r.number == 0 && not (r.flags == 0)) (branch p.FLAGS (flags_below r.flags) none)) after

abbrev pub param_line : Param → Item
param_line r =
    item p.ITEM_PARAM
    (line word.DOT_PARAM
    (branch p.PARAM_OF_BRACKET (number_in_brackets r.number (line_flags r (constant_opt r.constant none))) none))

-- `.param type [k]` among the items of a method
abbrev pub typar_item : ℕ → Item
typar_item k = item p.ITEM_PARAM (line word.DOT_PARAM (branch p.PARAM_OF_TYPE (typar_key k) none))

module _ (externs : List ExternAssembly) where
  -- a parameter: its flags, its type and its name
  abbrev pub parameter : Option Param → SigType → Item
  parameter row t = item p.DEF_ARG (param_flags row (put (type_of externs t) (param_name row)))

  -- those from this number on
  abbrev pub parameters : List Param → ℕ → List SigType → List Item
  parameters rows k [] = []
  parameters rows k (t ∷ ts) = parameter (row_of rows k) t ∷ parameters rows (suc k) ts

  abbrev pub def_args : List Item → Option Shown
  def_args [] = None
  def_args (i ∷ is) =
      Some (branch p.DEF_ARGS (commas p.COMMA_DEF_ARG_STAR_MORE p.COMMA_DEF_ARG_STAR_END p.COMMA_DEF_ARG (i ∷ is) none) none)

  -- ---- items

  -- the line of a row with its attributes behind it
  abbrev pub row_lines : Param → List Item
  row_lines r = if wants_line r then param_line r ∷ customs externs p.ITEM_CUSTOM r.attributes else []

  abbrev pub override : MethodRef → Item
  override r =
      item p.ITEM_OVERRIDE
      (line word.DOT_OVERRIDE (branch p.OVERRIDDEN_METHOD (w word.METHOD (put (method_ref externs r) none)) none))

  abbrev pub entrypoint : Bool → List Item
  entrypoint true = item p.ITEM_ENTRYPOINT (line word.DOT_ENTRYPOINT none) ∷ []
  entrypoint false = []

  abbrev pub body_opt : Option Body → List Item
  body_opt None = []
  body_opt (Some b) = body externs b

  -- attributes, generic parameters with attributes, rows of parameters, overrides, the entry point, and the body
  abbrev pub method_items : Method → List Item
  method_items m =
      customs externs p.ITEM_CUSTOM m.attributes
      ++ (typar_lines externs typar_item p.ITEM_CUSTOM 1 m.generics
      ++ (flat_map (row_lines) m.params
      ++ (map (override) m.overrides
      ++ (entrypoint m.entry ++ body_opt m.body))))

  -- a method, as what stands for `Method`
  unfoldable pub method : Method → Item
  method m =
      item p.METHOD
      (line word.DOT_METHOD
      (star p.METHOD_ATTR_STAR_MORE p.METHOD_ATTR_STAR_END (flag_items n.METHOD_ATTR p.METHOD_ATTR_FLAGS method_words m.flags)
      (convention m.sig
      (put (type_of externs m.sig.ret)
      (put (method_name m.name)
      (typars_opt externs m.generics
      (w word.OPEN_PAREN
      (optional p.DEF_ARGS_OPT_SOME p.DEF_ARGS_OPT_NONE (def_args (parameters m.params 1 m.sig.params))
      (w word.CLOSE_PAREN
      (star p.IMPL_ATTR_STAR_MORE p.IMPL_ATTR_STAR_END
      (flag_items n.IMPL_ATTR p.IMPL_ATTR_FLAGS implementation_words m.impl_flags)
      (braces p.ITEM_STAR_MORE p.ITEM_STAR_END (method_items m))))))))))))
