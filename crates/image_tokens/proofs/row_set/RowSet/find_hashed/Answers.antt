use Rattle.std.proofs.Common.{◌≡◌, ◌+◌, ◌-◌, ◌∙◌, ap, sym, map, Some, true≢false, arith}
use Rattle.std.proofs.lemmas.Option.{same_Some}
use Rattle.hash_places.specs.Slots.{place_of}
use Rattle.image_tokens.specs.Rows.{cells_hash, IsRowAt}
use Rattle.image_tokens.specs.declared.row_set.Linked.{Linked}
use Rattle.image_tokens.proofs.ChainLemmas.{ahead_of-smaller, smaller_next, hashed_next, ahead_next}
use Rattle.image_tokens.proofs.FoundLemmas.{at_map}
use Rattle.image_tokens.proofs.RowLemmas.{decides_cells, only_row}
use Rattle.image_tokens.proofs.RowSetLemmas.{all_cells}
use Rattle.image_tokens.proofs.row_set.RowSet.find_hashed.Goals as goal

pub returns-then-eq-clause-found : goal.returns-then-eq-clause-found
returns-then-eq-clause-found c =
    let e = c.at-row.result.now in
    let m = c.in-Some.place in
    let at = at_map (λ (x : Linked). x.cells) c.self.inside.rows m e c.at-row.ensures ∙ ap Some ((decides_cells e.cells c.args.cells).0 (sym c.eq.ensures ∙ c.if-eq.true)) in
    let before : m + 1 - 1 ≡ m = omega arith in
    rw (← c.self.view_is) (record { counted = omega arith; at = rw before at })

pub returns-then-eq-clause-only : goal.returns-then-eq-clause-only
returns-then-eq-clause-only c =
    let e = c.at-row.result.now in
    let m = c.in-Some.place in
    let at = at_map (λ (x : Linked). x.cells) c.self.inside.rows m e c.at-row.ensures ∙ ap Some ((decides_cells e.cells c.args.cells).0 (sym c.eq.ensures ∙ c.if-eq.true)) in
    let before : m + 1 - 1 ≡ m = omega arith in
    let here : IsRowAt (all_cells c.self.inside.rows) c.args.cells (m + 1) = record { counted = omega arith; at = rw before at } in
    rw (← c.self.view_is) (λ other there. only_row (all_cells c.self.inside.rows) c.args.cells (m + 1) other c.self.invariant.1.distinct here there)

pub returns-clause-none : goal.returns-clause-none
returns-clause-none c =
    rw (← c.self.view_is) (λ k h. let a = c.loop-at.invariant.ahead k h in let none = c.in_default.is in cc)

pub loop-at-smaller : goal.loop-at-smaller
loop-at-smaller c =
    let es = c.self.inside.rows in
    let e = c.at-row.result.now in
    ahead_of-smaller e.next c.loop-at.at c.in-Some.place c.in-Some.is (λ j next.
    smaller_next cells_hash (place_of c.self.inside.newest) (map (λ (x : Linked). x.cells) es) (map (λ (x : Linked). x.next) es) c.self.invariant.1 c.args.cells
    c.in-Some.place j e.cells (at_map (λ (x : Linked). x.cells) es c.in-Some.place e c.at-row.ensures)
    (at_map (λ (x : Linked). x.next) es c.in-Some.place e c.at-row.ensures ∙ ap Some next))

pub loop-at-preserved : goal.loop-at-preserved
loop-at-preserved c =
    let es = c.self.inside.rows in
    let e = c.at-row.result.now in
    let m = c.in-Some.place in
    let at = at_map (λ (x : Linked). x.cells) es m e c.at-row.ensures in
    let link = at_map (λ (x : Linked). x.next) es m e c.at-row.ensures in
    let h = c.loop-at.invariant.hashed m c.in-Some.is in
    let alike : cells_hash e.cells ≡ cells_hash c.args.cells = ap cells_hash (same_Some e.cells h.0 (sym at ∙ h.1)) ∙ h.2 in
    record {
      hashed = λ j next. hashed_next cells_hash (place_of c.self.inside.newest) (map (λ (x : Linked). x.cells) es) (map (λ (x : Linked). x.next) es) c.self.invariant.1 c.args.cells
          m j e.cells at (link ∙ ap Some next) alike;
      ahead = λ k here.
          let a = c.loop-at.invariant.ahead k here in
          let place : a.0 ≡ m = same_Some a.0 m (sym a.1 ∙ c.in-Some.is) in
          ahead_next cells_hash (place_of c.self.inside.newest) (map (λ (x : Linked). x.cells) es) (map (λ (x : Linked). x.next) es) c.self.invariant.1 c.args.cells
          m k e.cells e.next at link alike
          (λ same. true≢false (sym ((decides_cells e.cells c.args.cells).1 same) ∙ sym c.eq.ensures ∙ c.if-eq.false))
          here (omega (arith, a.2));
    }
