use Rattle.std.proofs.Common.{sym, ◌∙◌}
use Rattle.code_flow.proofs.Innermost.{end_finally_exact}
use Rattle.code_flow.proofs.places.may_end_finally.Goals as goal

pub returns : goal.returns
returns c = λ f e.
    let x = end_finally_exact f c.args.clauses.now c.args.k e in
    (λ h. x.0 (sym c.any_ends_finally.ensures ∙ h), λ m. c.any_ends_finally.ensures ∙ x.1 m)
