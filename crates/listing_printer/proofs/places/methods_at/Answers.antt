use Rattle.std.proofs.Common.{sym, ap, ◌∙◌, subst, ◌≡◌, true}
use Rattle.std.specs.Prelude.{is_some}
use Rattle.listing_printer.specs.Ways.{onward}
use Rattle.listing_printer.proofs.Ways.{walked, module_found}
use Rattle.listing_printer.proofs.places.methods_at.Goals as goal

pub walk-requires : goal.walk-requires
walk-requires c =
    ap is_some
    (ap (λ p. onward c.as_slice-2.result.now c.as_slice-3.result.now p c.args.places.now) c.requires.empty
    ∙ sym (walked c.args.a.now c.args.places.now _ _ (sym c.is_empty.ensures ∙ c.if-is_empty.false) c.as_slice-2.ensures))
    ∙ c.requires.there

pub returns : goal.returns
returns c =
    walked c.args.a.now c.args.places.now _ _ (sym c.is_empty.ensures ∙ c.if-is_empty.false) c.as_slice-2.ensures
    ∙ (ap (λ p. onward c.as_slice-2.result.now c.as_slice-3.result.now p c.args.places.now) (sym c.requires.empty) ∙ c.in_ok-methods.ensures)

pub returns-then-is_empty : goal.returns-then-is_empty
returns-then-is_empty c =
    module_found c.args.a.now c.args.places.now _ _ (sym c.is_empty.ensures ∙ c.if-is_empty.true) c.in_ok-enter_module.ensures c.as_slice.ensures
