use Rattle.std.proofs.Common.{ap, sym, ◌∙◌}
use Rattle.std.specs.Prelude.{is_some}
use Rattle.listing_model.specs.Canon.{methods_at}
use Rattle.listing_printer.proofs.Ways.{types_there, method_there, method_is}
use Rattle.listing_printer.proofs.places.method_by.Goals as goal

pub methods_at-requires : goal.methods_at-requires
methods_at-requires c = record {
  empty = c.new-path.ensures;
  there = ap (λ ks. is_some (methods_at c.args.a.now ks)) c.as_slice.ensures ∙ types_there c.args.a.now c.args.at.now c.requires.there;
}

pub bounds-methods-at : goal.bounds-methods-at
bounds-methods-at c =
    method_there c.args.a.now c.args.at.now _ _ (ap (methods_at c.args.a.now) (sym c.as_slice.ensures) ∙ c.in_ok-methods.ensures) c.requires.there

pub returns : goal.returns
returns c =
    let placed = ap (methods_at c.args.a.now) (sym c.as_slice.ensures) ∙ c.in_ok-methods.ensures in
    method_is c.args.a.now c.args.at.now _ _ _ c.index-methods-at.result _ placed (method_there c.args.a.now c.args.at.now _ _ placed c.requires.there)
    c.index-methods-at.is c.as_slice-2.ensures (c.in_ok-text.ensures c.args.a.now c.requires.same)
