-- The methods of a listing break no rule where their bodies as wholes don't (ECMA-335 II.15).
use Rattle.std.specs.Prelude.{ℕ, ◌+◌, ◌≡◌, true, false, List, [], ◌∷◌, ⊤}
use Rattle.std.specs.List.{list_all}
use Rattle.ilasm_grammar.specs.declared.nonterminals.TheConstants as n
use Rattle.ilasm_grammar.specs.declared.symbol.Symbol.TheVariants.{Nonterminal}
use Rattle.ilasm_grammar.specs.declared.productions.TheConstants as p
use Rattle.assembly_tree.specs.WellFormedMembers.{is_method}
use Rattle.assembly_tree.specs.declared.assembly.Assembly.{Assembly}
use Rattle.assembly_tree.specs.declared.members.Method.{Method}
use Rattle.source_model.specs.Forest as f
use Rattle.source_model.specs.Members.{in_method}
use Rattle.source_model.specs.Nodes.{Around, Node, nodes_in, entered, nothing_around}
use Rattle.source_model.specs.Source.{Source}
use Rattle.faultless_nodes.specs.Laws.{EachBreaksNothing, MethodBreaksNothing, asked}
use Rattle.listing_declarations.specs.Laws.{IsListingOf, global_items, methods_place}
use Rattle.listing_groups.specs.Laws.{method_items}
use Rattle.listing_growth.specs.Held.{is_method_held}
use Rattle.listing_model.specs.Grown.{body_of, Grows}
use Rattle.listing_model.specs.Methods.{method}
use Rattle.listing_model.specs.Shown.{none, put, size}
use Rattle.listing_reading.specs.Numbered.{numbered, Agrees}
use Rattle.listing_rows.specs.Segments.{ItemsAgree, EachGrown}
use Rattle.listing_denotes.specs.Quiet.{ItemsBreakNothing}

-- the production of a method from this token on, with what stands around its parts
abbrev pub method_node : Assembly → Around → ℕ → Method → Node
method_node a x at m = record { production = p.METHOD; below = numbered at (method a.externs m).below; around = in_method x (numbered at (method a.externs m).below) }

-- a production stands around what is in it as what is around it does
abbrev pub entered_is_same : Source → Around → ℕ → Type 0
entered_is_same s x production = (b : f.Forest) → entered s x production b ≡ x

-- each of methods one after another, below productions that hold one each, breaks none of the rules on labels, variables, branches, clauses
-- and numbers that are asked of it as a whole
abbrev pub EachBodyBreaksNothing : Source → Assembly → Around → ℕ → List Method → Type 0
EachBodyBreaksNothing s a x at [] = ⊤
EachBodyBreaksNothing s a x at (m ∷ ms) = MethodBreaksNothing s (method_node a x at m) × EachBodyBreaksNothing s a x (at + size (put (method a.externs m) none)) ms

-- A method breaks none where it breaks none of those; so do methods in a row; and so do those outside of any type.
pub record MethodsBreakByBodies : Type 0 where
  pub one : (s : Source) (a : Assembly) → IsListingOf s a → (x : Around) (m : Method) → is_method a m ≡ true → is_method_held m ≡ true → Grows (body_of p.METHOD) (method a.externs m).below →
      (at : ℕ) → Agrees s at (put (method a.externs m) none) → MethodBreaksNothing s (method_node a x at m) → EachBreaksNothing s (nodes_in s x (numbered at (put (method a.externs m) none)))
  pub rows : (s : Source) (a : Assembly) → IsListingOf s a → (x : Around) (production y : ℕ) → body_of production ≡ Nonterminal n.METHOD ∷ [] → f.is_among asked production ≡ false →
      entered_is_same s x production → (ms : List Method) → list_all (is_method a) ms ≡ true → list_all is_method_held ms ≡ true → (at : ℕ) → EachGrown y (method_items a.externs production ms) →
      ItemsAgree s at (method_items a.externs production ms) → EachBodyBreaksNothing s a x at ms → ItemsBreakNothing s x at (method_items a.externs production ms)
  pub globals : (s : Source) (a : Assembly) → IsListingOf s a → EachBodyBreaksNothing s a nothing_around (methods_place a) a.methods → ItemsBreakNothing s nothing_around (methods_place a) (global_items a)
