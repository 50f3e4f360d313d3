use Rattle.std.proofs.Common.{sym, ◌∙◌}
use Rattle.code_flow.proofs.Innermost.{rethrow_exact}
use Rattle.code_flow.proofs.places.may_rethrow.Goals as goal

pub returns : goal.returns
returns c = λ f e.
    let x = rethrow_exact f c.args.clauses.now c.args.k e in
    (λ h. x.0 (sym c.any_rethrows.ensures ∙ h), λ m. c.any_rethrows.ensures ∙ x.1 m)
