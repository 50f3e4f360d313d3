-- The rows of parameters in a table by their numbers, and what is drawn of a row.
use Rattle.std.specs.Prelude.{ℕ, ◌≡◌, ◌==◌, if◌then◌else◌, List, length, slice_get, Option, None, Some}
use Rattle.ilasm_grammar.specs.declared.nonterminals.TheConstants as n
use Rattle.ilasm_grammar.specs.declared.productions.TheConstants as p
use Rattle.assembly_tree.specs.declared.members.Param.{Param}
use Rattle.listing_model.specs.Flags.{flag_items, parameter_words}
use Rattle.listing_model.specs.Methods.{row_of}
use Rattle.listing_model.specs.Shown.{none}
use Rattle.listing_model.specs.Types.{name}
use Rattle.print_leaves.specs.Page.{Page, drawn}
use Rattle.print_terms.specs.Rows.{in_row}

-- flags and the name of a row, where there is one
abbrev pub row_drawn : Page → Option Param → Page
row_drawn q None = q
row_drawn q (Some r) = in_row q (flag_items n.PARAM_ATTR p.PARAM_ATTR_FLAGS parameter_words r.flags)

abbrev pub row_name_drawn : Page → Option Param → Page
row_name_drawn p None = p
row_name_drawn p (Some r) = if length r.name == 0 then p else drawn p (name r.name none)

-- places, all without a row
pub record AreEmpty (places : List (Option ℕ)) : Type 0 where
  pub empty : (k : ℕ) (x : Option ℕ) → slice_get places k ≡ Some x → x ≡ None

-- the row at a place, where there is one
abbrev pub row_of_place : List Param → Option ℕ → Option Param
row_of_place rows None = None
row_of_place rows (Some k) = slice_get rows k

-- each number leads to the first row with it, where there is one
pub record IsTable (rows : List Param) (places : List (Option ℕ)) : Type 0 where
  pub leads : (k : ℕ) (x : Option ℕ) → slice_get places k ≡ Some x → row_of_place rows x ≡ row_of rows k
