-- What is drawn of the parameters in the head of a method.
use Rattle.std.proofs.Common.{◌≡◌, ℕ, suc, ◌+◌, ◌<◌, ◌==◌, not, Bool, true, false, cond, List, [], ◌∷◌, length, drop, fold, get_or, Option, None, Some, refl, ap, sym, ◌∙◌, arith}
use Rattle.il_lexer.specs.declared.word.TheConstants as word
use Rattle.ilasm_grammar.specs.declared.nonterminals.TheConstants as n
use Rattle.ilasm_grammar.specs.declared.productions.TheConstants as p
use Rattle.type_terms.specs.declared.term.SigType.{SigType}
use Rattle.assembly_tree.specs.declared.assembly.ExternAssembly.{ExternAssembly}
use Rattle.assembly_tree.specs.declared.members.Param.{Param}
use Rattle.listing_model.specs.Flags.{flag_items, parameter_words}
use Rattle.listing_model.specs.Methods.{row_of, parameter, parameters, def_args}
use Rattle.listing_model.specs.Shown.{none, w, opt_below, optional, when}
use Rattle.listing_model.specs.Types.{name, type_below}
use Rattle.print_leaves.specs.Page.{Page, drawn}
use Rattle.print_terms.specs.Rows.{under, in_row, behind, between}
use Rattle.print_terms.proofs.Rows.{star_row, commas_between}
use Rattle.print_members.proofs.Steps.{drop_at}
use Rattle.print_methods.specs.Tables.{row_drawn, row_name_drawn}

module _ (externs : List ExternAssembly) where
  name_by : (q : Page) (r : Param) (t : Bool) →
      drawn q (optional p.NAME_OPT_SOME p.NAME_OPT_NONE (when (not t) (name r.name none)) none) ≡ cond t q (drawn q (name r.name none))
  name_by q r true = refl
  name_by q r false = refl

  parameter_is : (q : Page) (row : Option Param) (t : SigType) →
      under q (parameter externs row t) ≡ row_name_drawn (drawn (row_drawn q row) (type_below externs t)) row
  parameter_is q None t = refl
  parameter_is q (Some r) t =
      let flags = flag_items n.PARAM_ATTR p.PARAM_ATTR_FLAGS parameter_words r.flags in
      name_by _ r (length r.name == 0)
      ∙ ap (λ x. row_name_drawn (drawn x (type_below externs t)) (Some r)) (star_row p.PARAM_ATTR_STAR_MORE p.PARAM_ATTR_STAR_END q flags)

  pub parameter_done : (q a b new : Page) (row : Option Param) (t : SigType) → a ≡ row_drawn q row → b ≡ drawn a (type_below externs t) →
      new ≡ row_name_drawn b row → new ≡ under q (parameter externs row t)
  parameter_done q a b new row t ha hb hn =
      hn ∙ (ap (λ x. row_name_drawn x row) (hb ∙ ap (λ x. drawn x (type_below externs t)) ha) ∙ sym (parameter_is q row t))

  pub first_done : (rows : List Param) (q a new : Page) (row : Option Param) (t : SigType) (ts all : List SigType) → all ≡ t ∷ ts → row ≡ row_of rows 1 →
      a ≡ under q (parameter externs row t) → new ≡ fold behind a (parameters externs rows 2 ts) → new ≡ between q (parameters externs rows 1 all)
  first_done rows q a new row t ts all e er ha hn =
      hn
      ∙ (ap (λ x. fold behind x (parameters externs rows 2 ts)) (ha ∙ ap (λ r. under q (parameter externs r t)) er)
      ∙ ap (λ xs. between q (parameters externs rows 1 xs)) (sym e))

  pub parameters_step : (rows : List Param) (q a b goal : Page) (k : ℕ) (row : Option Param) (t : SigType) (ts : List SigType) → k < length ts →
      t ≡ get_or ts k t → row ≡ row_of rows (k + 2) → a ≡ drawn q (w word.COMMA none) → b ≡ under a (parameter externs row t) →
      fold behind q (parameters externs rows (suc (suc k)) (drop k ts)) ≡ goal →
      fold behind b (parameters externs rows (suc (suc (k + 1))) (drop (k + 1) ts)) ≡ goal
  parameters_step rows q a b goal k row t ts h e er ha hb so =
      let comma = drawn q (w word.COMMA none) in
      let rest = drop (k + 1) ts in
      let row_is : row ≡ row_of rows (suc (suc k)) = er ∙ ap (row_of rows) {x = k + 2} {y = suc (suc k)} (omega arith) in
      ap (λ x. fold behind x (parameters externs rows (suc (suc (k + 1))) rest))
      (hb ∙ (ap (λ x. under x (parameter externs row t)) ha ∙ ap (λ r. under comma (parameter externs r t)) row_is))
      ∙ (ap (λ n. fold behind (under comma (parameter externs (row_of rows (suc (suc k))) t)) (parameters externs rows n rest))
      {x = suc (suc (k + 1))} {y = suc (suc (suc k))} (omega arith)
      ∙ (sym (ap (λ xs. fold behind q (parameters externs rows (suc (suc k)) xs)) (drop_at ts k t h e)) ∙ so))

  -- the parameters in the parentheses of a head
  pub args_drawn : (rows : List Param) (q : Page) (ts : List SigType) →
      drawn q (opt_below (def_args externs (parameters externs rows 1 ts))) ≡ between q (parameters externs rows 1 ts)
  args_drawn rows q [] = refl
  args_drawn rows q (t ∷ ts) =
      commas_between p.COMMA_DEF_ARG_STAR_MORE p.COMMA_DEF_ARG_STAR_END p.COMMA_DEF_ARG q (parameters externs rows 1 (t ∷ ts)) none
