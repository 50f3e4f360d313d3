-- Methods one after another are read back.
use Rattle.std.proofs.Common.{◌≡◌, ℕ, ◌+◌, true, cond, List, [], ◌∷◌, map, filter, refl, ap, subst, ◌∙◌}
use Rattle.std.proofs.lemmas.Bool.{and_parts}
use Rattle.std.specs.List.{list_all}
use Rattle.ilasm_grammar.specs.declared.nonterminals.TheConstants as n
use Rattle.ilasm_grammar.specs.declared.productions.TheConstants as p
use Rattle.ilasm_grammar.specs.declared.symbol.Symbol.TheVariants.{Nonterminal}
use Rattle.assembly_tree.specs.WellFormedMembers.{is_method}
use Rattle.assembly_tree.specs.declared.assembly.Assembly.{Assembly}
use Rattle.assembly_tree.specs.declared.assembly.ExternAssembly.{ExternAssembly}
use Rattle.assembly_tree.specs.declared.members.Method.{Method}
use Rattle.source_model.specs.Forest as f
use Rattle.source_model.specs.Members as read
use Rattle.source_model.specs.Nodes.{Around}
use Rattle.source_model.specs.Source.{Source}
use Rattle.listing_formed.specs.Laws.{Knows}
use Rattle.listing_growth.specs.Held.{is_method_held}
use Rattle.listing_heads.specs.Laws.{HeadsAreRead}
use Rattle.listing_members.specs.Laws.{AreMethods}
use Rattle.listing_methods.specs.Laws.{MethodsAreRead}
use Rattle.listing_model.specs.Grown.{body_of, Grows}
use Rattle.listing_model.specs.Methods.{method}
use Rattle.listing_model.specs.Shown.{none, put, size}
use Rattle.listing_reading.specs.Numbered.{numbered}
use Rattle.listing_reading.specs.Rows.{parts_at}
use Rattle.listing_rows.specs.Segments.{ItemsAgree, EachGrown}
use Rattle.listing_groups.specs.Laws.{method_items, forests_at, are_short, MethodRowsAreRead}

forests_are : (externs : List ExternAssembly) (production : ℕ) → ((g : f.Forest) → read.is_method_part (f.part production g) ≡ true) → (ms : List Method) (at : ℕ) →
    read.method_forests (parts_at at (method_items externs production ms)) ≡ forests_at externs at ms
unfolding method
forests_are externs production h [] at = refl
forests_are externs production h (m ∷ ms) at =
    let g = numbered at (put (method externs m) none) in
    let ps = parts_at (at + size (put (method externs m) none)) (method_items externs production ms) in
    ap (λ c. map (λ q. f.the p.METHOD q.below) (cond c (f.part production g ∷ filter read.is_method_part ps) (filter read.is_method_part ps))) (h g)
    ∙ ap (λ gs. numbered at (method externs m).below ∷ gs) (forests_are externs production h ms (at + size (put (method externs m) none)))

module _ (heads : HeadsAreRead) (method_laws : MethodsAreRead) (s : Source) (around : Around) (a : Assembly) (knows : Knows s a) (production x : ℕ) (holds : body_of production ≡ Nonterminal n.METHOD ∷ []) where
  own_grown : (m : Method) → Grows (body_of production) (put (method a.externs m) none) → Grows (body_of p.METHOD) (method a.externs m).below
  unfolding method
  own_grown m g = (subst (λ b. Grows b (put (method a.externs m) none)) holds g).1

  methods_are : (ms : List Method) → list_all (is_method a) ms ≡ true → list_all is_method_held ms ≡ true → are_short ms → (at : ℕ) →
      EachGrown x (method_items a.externs production ms) → ItemsAgree s at (method_items a.externs production ms) → map (read.method s around) (forests_at a.externs at ms) ≡ ms
  methods_are [] q h short at g ag = refl
  methods_are (m ∷ ms) q h short at g ag =
      let qs = and_parts (is_method a m) (list_all (is_method a) ms) q in
      let hs = and_parts (is_method_held m) (list_all is_method_held ms) h in
      let next = at + size (put (method a.externs m) none) in
      ap (λ y. y ∷ map (read.method s around) (forests_at a.externs next ms)) (method_laws s around a knows m qs.0 hs.0 short.0 (own_grown m g.1) at ag.0.0)
      ∙ ap (λ ys. m ∷ ys) (methods_are ms qs.1 hs.1 short.1 next g.2 ag.1)

  heads_are : (ms : List Method) → list_all (is_method a) ms ≡ true → list_all is_method_held ms ≡ true → (at : ℕ) →
      EachGrown x (method_items a.externs production ms) → ItemsAgree s at (method_items a.externs production ms) → AreMethods s around (forests_at a.externs at ms) ms
  heads_are [] q h at g ag = tt
  heads_are (m ∷ ms) q h at g ag =
      let qs = and_parts (is_method a m) (list_all (is_method a) ms) q in
      let hs = and_parts (is_method_held m) (list_all is_method_held ms) h in
      let own = own_grown m g.1 in (
        heads.names s a m qs.0 own at ag.0.0,
        heads.signatures s (read.in_method around (numbered at (method a.externs m).below)) a knows m qs.0 hs.0 own at ag.0.0,
        heads_are ms qs.1 hs.1 (at + size (put (method a.externs m) none)) g.2 ag.1,
      )

pub method_rows_are_read : HeadsAreRead → MethodsAreRead → MethodRowsAreRead
method_rows_are_read heads method_laws = record {
  forests = forests_are;
  all = λ s around a knows production x holds ms q h short at g ag. methods_are heads method_laws s around a knows production x holds ms q h short at g ag;
  heads = λ s around a knows production x holds ms q h at g ag. heads_are heads method_laws s around a knows production x holds ms q h at g ag;
}
