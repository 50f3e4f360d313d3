use Rattle.std.proofs.Common.{◌≡◌, ℕ, ◌≤◌, List, Some, map, sym, ◌∙◌, ap}
use Rattle.std.specs.Prelude.{slice_get}
use Rattle.std.proofs.lemmas.Option.{slice_get-map, same_Some}
use Rattle.std.proofs.lemmas.Bool.{false≢true}
use Rattle.std.specs.Option.{option_map}
use Rattle.name_numbers.specs.Table.{told, told_hash, names_in}
use Rattle.name_numbers.specs.declared.table.Entry.{Entry}
use Rattle.name_numbers.proofs.Chaining.{ahead_of-smaller, smaller_next, hashed_next, ahead_next}
use Rattle.name_numbers.proofs.table.NameTable.find.Goals as goal

-- the name of the entry at m, and its link
name_here : (heap : List ℕ) (entries : List Entry) (m : ℕ) (entry : Entry) → slice_get entries m ≡ Some entry
    → slice_get (names_in heap entries) m ≡ Some (told heap entry.key)
name_here heap entries m entry at = slice_get-map (λ (e : Entry). told heap e.key) entries m ∙ ap (option_map (λ (e : Entry). told heap e.key)) at

link_here : (entries : List Entry) (m : ℕ) (entry : Entry) → slice_get entries m ≡ Some entry
    → slice_get (map (λ (e : Entry). e.next) entries) m ≡ Some entry.next
link_here entries m entry at = slice_get-map (λ (e : Entry). e.next) entries m ∙ ap (option_map (λ (e : Entry). e.next)) at

pub loop-at-smaller : goal.loop-at-smaller
loop-at-smaller c =
    let m = c.in-Some.place in
    let entry = c.at-entry.result.now in
    let here = name_here c.args.texts.now c.args.self.now.entries m entry c.at-entry.ensures in
    let link = link_here c.args.self.now.entries m entry c.at-entry.ensures in
    ahead_of-smaller entry.next c.loop-at.at m c.in-Some.is
    (λ j is. smaller_next told_hash _ _ _ c.requires.chained (told c.args.texts.now c.args.key) m j (told c.args.texts.now entry.key) here (link ∙ ap Some is))

pub loop-at-preserved : goal.loop-at-preserved
loop-at-preserved c =
    let m = c.in-Some.place in
    let entry = c.at-entry.result.now in
    let name = told c.args.texts.now entry.key in
    let wanted = told c.args.texts.now c.args.key in
    let here = name_here c.args.texts.now c.args.self.now.entries m entry c.at-entry.ensures in
    let link = link_here c.args.self.now.entries m entry c.at-entry.ensures in
    let was = c.loop-at.invariant.hashed m c.in-Some.is in
    let same : told_hash name ≡ told_hash wanted
    = ap told_hash (same_Some name was.0 (sym here ∙ was.1)) ∙ was.2 in
    let other : name ≡ wanted → ⊥
    = λ e. false≢true (sym c.if-are_same.false ∙ c.are_same.ensures.1 e) in
    record {
      hashed = λ j is. hashed_next told_hash _ _ _ c.requires.chained wanted m j name here (link ∙ ap Some is) same;
      ahead = λ k at. let a = c.loop-at.invariant.ahead k at in
          let e = same_Some a.0 m (sym a.1 ∙ c.in-Some.is) in
          let below : k ≤ m = rw e at a.2 in
          ahead_next told_hash _ _ _ c.requires.chained wanted m k name entry.next here link same other at below;
    }
