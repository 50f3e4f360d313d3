use Rattle.std.proofs.Common.{sym, ◌∙◌}
use Rattle.code_flow.proofs.Innermost.{end_filter_exact}
use Rattle.code_flow.proofs.places.may_end_filter.Goals as goal

pub returns : goal.returns
returns c = λ f e.
    let x = end_filter_exact f c.args.clauses.now c.args.k e in
    (λ h. x.0 (sym c.any_ends_filter.ensures ∙ h), λ m. c.any_ends_filter.ensures ∙ x.1 m)
