use Rattle.std.proofs.Common.{map, ap, sym, ◌∙◌}
use Rattle.listing_model.specs.References.{argument, with_sentinel}
use Rattle.listing_model.specs.Types.{type_of}
use Rattle.print_terms.specs.Rows.{between}
use Rattle.print_terms.proofs.Owners.{arguments_are_types}
use Rattle.print_terms.proofs.references.write_params.Goals as goal

pub returns-in_ok-write_types-in-None : goal.returns-in_ok-write_types-in-None
returns-in_ok-write_types-in-None c =
    let params = c.args.sig.now.params in
    c.in_ok-write_types-in-None.ensures
    ∙ (ap (λ ts. between c.args.paper.now (map (type_of c.args.externs.now) ts)) c.as_slice.ensures
    ∙ (sym (arguments_are_types c.args.externs.now c.args.paper.now params)
    ∙ ap (λ s. between c.args.paper.now (with_sentinel s (map (argument c.args.externs.now) params))) (sym c.in-None.is)))
