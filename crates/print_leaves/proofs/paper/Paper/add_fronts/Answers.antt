use Rattle.std.proofs.Common.{◌≡◌, ◌<◌, false, ap, sym, ◌∙◌, get_or, arith}
use Rattle.std.specs.List.{list_any}
use Rattle.listing_leaves.specs.Names.{pieces, is_empty}
use Rattle.print_leaves.specs.Page.{added}
use Rattle.print_leaves.specs.Parts.{fronts, last_part}
use Rattle.print_leaves.proofs.Escapes.{text_behind}
use Rattle.print_leaves.proofs.Pages.{added_nothing}
use Rattle.print_leaves.proofs.Parts.{fronts_step, last_step, split_parts_of}
use Rattle.print_leaves.proofs.paper.Paper.add_fronts.Goals as goal

pub loop-place-preserved : goal.loop-place-preserved
loop-place-preserved c =
    let rest = c.loop-place.rest.now in
    let f = c.in-Some.ensures in
    let low : get_or rest c.in-Some.place 0 < 128 = omega (arith, f.dot) in (
      text_behind rest _ c.in-Some.place c.loop-place.invariant.0 f.within low c.cut.ensures.back,
      fronts_step c.loop-place.self _ _ rest _ _ c.in-Some.place f c.cut.ensures.front c.cut.ensures.back c.in_ok-add_part.ensures c.in_ok-add_ascii.ensures
          ∙ c.loop-place.invariant.1,
      last_step rest _ c.in-Some.place f c.cut.ensures.back ∙ c.loop-place.invariant.2,
    )

pub returns-clause-before : goal.returns-clause-before
returns-clause-before c =
    let e : list_any is_empty (pieces c.args.text.now) ≡ false =
    ap (λ b. list_any is_empty (pieces b)) (sym c.as_bytes.ensures.value) ∙ (sym c.has_empty_piece.ensures ∙ c.if-has_empty_piece.false) in
    sym (added_nothing c.loop-place.self)
    ∙ (ap (λ ps. added c.loop-place.self (fronts ps)) (sym c.in_default.ensures)
    ∙ (c.loop-place.invariant.1 ∙ ap (λ ps. added c.args.self.now (fronts ps)) (sym (split_parts_of c.args.text.now e))))

pub returns-clause-last : goal.returns-clause-last
returns-clause-last c =
    let e : list_any is_empty (pieces c.args.text.now) ≡ false =
    ap (λ b. list_any is_empty (pieces b)) (sym c.as_bytes.ensures.value) ∙ (sym c.has_empty_piece.ensures ∙ c.if-has_empty_piece.false) in
    ap last_part (sym c.in_default.ensures) ∙ (c.loop-place.invariant.2 ∙ ap last_part (sym (split_parts_of c.args.text.now e)))
