-- Methods of a listing break no rule.
use Rattle.std.proofs.Common.{◌≡◌, ℕ, ◌+◌, ◌≤◌, ◌^◌, true, List, [], ◌∷◌, subst, arith}
use Rattle.std.proofs.lemmas.Bool.{and_parts}
use Rattle.std.specs.List.{list_all}
use Rattle.std.specs.Prelude.{sum_by}
use Rattle.ilasm_grammar.specs.declared.nonterminals.TheConstants as n
use Rattle.ilasm_grammar.specs.declared.productions.TheConstants as p
use Rattle.ilasm_grammar.specs.declared.symbol.Symbol.{Symbol}
use Rattle.ilasm_grammar.specs.declared.symbol.Symbol.TheVariants.{Nonterminal}
use Rattle.assembly_tree.specs.Weight.{method_weight, weight_of}
use Rattle.assembly_tree.specs.WellFormedMembers.{is_method}
use Rattle.assembly_tree.specs.declared.assembly.Assembly.{Assembly}
use Rattle.assembly_tree.specs.declared.members.Method.{Method}
use Rattle.source_model.specs.Nodes.{Around, nothing_around}
use Rattle.source_model.specs.Source.{Source}
use Rattle.listing_declarations.specs.Laws.{IsListingOf, DeclarationsAreRead, methods_place}
use Rattle.listing_groups.specs.Laws.{method_items, are_short}
use Rattle.listing_growth.specs.Held.{is_method_held}
use Rattle.listing_model.specs.Grown.{body_of, Grows}
use Rattle.listing_model.specs.Methods.{method}
use Rattle.listing_model.specs.Shown.{none, put, size}
use Rattle.listing_nesting.proofs.Formed.{methods_short}
use Rattle.listing_reading.specs.Numbered.{Agrees}
use Rattle.listing_rows.specs.Segments.{ItemsAgree, EachGrown}
use Rattle.listing_denotes.specs.Bodies.{BodiesBreakNothing, MethodsBreakNothing}
use Rattle.listing_denotes.specs.Methods.{EachBodyBreaksNothing, MethodsBreakByBodies}
use Rattle.listing_denotes.proofs.MethodsWhole.{held_methods, formed_methods, alone_below}

-- a method below a production that holds one
pub inner_grown : (a : Assembly) (m : Method) → Grows (Nonterminal n.METHOD ∷ []) (put (method a.externs m) none) → Grows (body_of p.METHOD) (method a.externs m).below
unfolding method
inner_grown a m g = g.1

pub inner_agrees : (s : Source) (a : Assembly) (m : Method) (at : ℕ) → Agrees s at (put (method a.externs m) none) → Agrees s at (method a.externs m).below
unfolding method
inner_agrees s a m at ag = ag.0

module _ (bodies : BodiesBreakNothing) (s : Source) (a : Assembly) (listed : IsListingOf s a) (x : Around) (production y : ℕ) (body : body_of production ≡ Nonterminal n.METHOD ∷ []) where
  pub each_right : (ms : List Method) → list_all (is_method a) ms ≡ true → list_all is_method_held ms ≡ true → are_short ms → (at : ℕ) → EachGrown y (method_items a.externs production ms) →
      ItemsAgree s at (method_items a.externs production ms) → EachBodyBreaksNothing s a x at ms
  each_right [] c h l at g ag = tt
  each_right (m ∷ ms) c h l at g ag =
      let cs = and_parts (is_method a m) (list_all (is_method a) ms) c in
      let hs = and_parts (is_method_held m) (list_all is_method_held ms) h in
      let grown = inner_grown a m (subst (λ (b : List Symbol). Grows b (put (method a.externs m) none)) body g.1) in
      (bodies s a listed x m cs.0 hs.0 l.0 grown at (inner_agrees s a m at ag.0), each_right ms cs.1 hs.1 l.1 (at + size (put (method a.externs m) none)) g.2 ag.1)

methods_light : (s : Source) (a : Assembly) → IsListingOf s a → sum_by method_weight a.methods ≤ 2 ^ 26
unfolding weight_of
methods_light s a listed = let light = listed.light in omega arith

pub methods_break_nothing : BodiesBreakNothing → MethodsBreakByBodies → DeclarationsAreRead → MethodsBreakNothing
methods_break_nothing bodies broken declared = record {
  rows = λ s a listed x production y body q same ms c h l at g ag.
      broken.rows s a listed x production y body q same ms c h at g ag (each_right bodies s a listed x production y body ms c h l at g ag);
  globals = λ s a listed.
      let has = declared s a listed in
      broken.globals s a listed
      (each_right bodies s a listed nothing_around p.DECL_METHOD n.DECL alone_below a.methods (formed_methods a listed.formed) (held_methods a listed.held)
      (methods_short a.methods (methods_light s a listed)) (methods_place a) has.methods_grown has.methods);
}
