-- The methods of a listing break no rule (ECMA-335 II.15.4.1, II.19, II.25.4, III.1.7).
use Rattle.std.specs.Prelude.{ℕ, ◌≡◌, true, false, List, [], ◌∷◌}
use Rattle.std.specs.List.{list_all}
use Rattle.ilasm_grammar.specs.declared.nonterminals.TheConstants as n
use Rattle.ilasm_grammar.specs.declared.symbol.Symbol.TheVariants.{Nonterminal}
use Rattle.ilasm_grammar.specs.declared.productions.TheConstants as p
use Rattle.assembly_tree.specs.WellFormedMembers.{is_method}
use Rattle.assembly_tree.specs.declared.assembly.Assembly.{Assembly}
use Rattle.assembly_tree.specs.declared.members.Method.{Method}
use Rattle.source_model.specs.Forest as f
use Rattle.source_model.specs.Nodes.{Around, nothing_around}
use Rattle.source_model.specs.Source.{Source}
use Rattle.faultless_nodes.specs.Laws.{MethodBreaksNothing, asked}
use Rattle.listing_declarations.specs.Laws.{IsListingOf, global_items, methods_place}
use Rattle.listing_groups.specs.Laws.{method_items, are_short}
use Rattle.listing_growth.specs.Held.{is_method_held}
use Rattle.listing_methods.specs.Laws.{is_short_code}
use Rattle.listing_model.specs.Grown.{body_of, Grows}
use Rattle.listing_model.specs.Methods.{method}
use Rattle.listing_reading.specs.Numbered.{Agrees}
use Rattle.listing_rows.specs.Segments.{ItemsAgree, EachGrown}
use Rattle.listing_denotes.specs.Methods.{method_node, entered_is_same}
use Rattle.listing_denotes.specs.Quiet.{ItemsBreakNothing}

-- Each label of a method stands once, and each that is named is there; variables are numbers that fit their operands; short branches reach
-- their targets, which are instructions; clauses are forward; and numbers and counts are in their ranges.
abbrev pub BodiesBreakNothing : Type 0
BodiesBreakNothing =
    (s : Source) (a : Assembly) → IsListingOf s a → (x : Around) (m : Method) → is_method a m ≡ true → is_method_held m ≡ true → is_short_code m.body →
    Grows (body_of p.METHOD) (method a.externs m).below → (at : ℕ) → Agrees s at (method a.externs m).below → MethodBreaksNothing s (method_node a x at m)

-- methods in a row, and those outside of any type
pub record MethodsBreakNothing : Type 0 where
  pub rows : (s : Source) (a : Assembly) → IsListingOf s a → (x : Around) (production y : ℕ) → body_of production ≡ Nonterminal n.METHOD ∷ [] → f.is_among asked production ≡ false →
      entered_is_same s x production → (ms : List Method) → list_all (is_method a) ms ≡ true → list_all is_method_held ms ≡ true → are_short ms → (at : ℕ) →
      EachGrown y (method_items a.externs production ms) → ItemsAgree s at (method_items a.externs production ms) →
      ItemsBreakNothing s x at (method_items a.externs production ms)
  pub globals : (s : Source) (a : Assembly) → IsListingOf s a → ItemsBreakNothing s nothing_around (methods_place a) (global_items a)
