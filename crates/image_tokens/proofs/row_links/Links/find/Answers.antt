use Rattle.std.proofs.Common.{◌≡◌, ◌∙◌, ap, sym, get_or, Some, true≢false, arith}
use Rattle.std.specs.Prelude.{slice_get}
use Rattle.std.proofs.lemmas.Option.{same_Some, slice_get_within}
use Rattle.hash_places.specs.Slots.{place_of}
use Rattle.image_tokens.specs.Rows.{cells_hash}
use Rattle.image_tokens.specs.declared.row_set.Cells.{Cells}
use Rattle.image_tokens.proofs.ChainLemmas.{next_hashed, next_ahead}
use Rattle.image_tokens.proofs.RowLemmas.{at_index, decides_cells}
use Rattle.image_tokens.proofs.RowLinkLemmas.{all_linked}
use Rattle.image_tokens.proofs.row_links.Links.find.Goals as goal

pub loop-at-preserved : goal.loop-at-preserved
loop-at-preserved c =
    let links = c.args.self.now in
    let rows = c.args.rows.now in
    let none : Cells = record { first = 0; second = 0; third = 0 } in
    let m = c.in-Some.place in
    let e = get_or rows m none in
    let h = c.loop-at.invariant.hashed m c.in-Some.is in
    let at : slice_get rows m ≡ Some e = at_index rows m none (slice_get_within rows m h.0 h.1) in
    let link = c.at-at.ensures in
    let alike : cells_hash e ≡ cells_hash c.args.cells = ap cells_hash (same_Some e h.0 (sym at ∙ h.1)) ∙ h.2 in
    let linked = all_linked (place_of links.newest) rows links.nexts c.requires.linked c.requires.all in
    record {
      hashed = λ j next. next_hashed cells_hash (place_of links.newest) rows links.nexts linked c.args.cells m j e at (link ∙ ap Some next) alike;
      ahead = λ k here.
          let a = c.loop-at.invariant.ahead k here in
          let place : a.0 ≡ m = same_Some a.0 m (sym a.1 ∙ c.in-Some.is) in
          next_ahead cells_hash (place_of links.newest) rows links.nexts linked c.args.cells m k e c.at-at.result.now at link alike
          (λ same. true≢false (sym ((decides_cells e c.args.cells).1 same) ∙ sym c.eq.ensures ∙ c.if-eq.false))
          here (omega (arith, a.2));
    }
