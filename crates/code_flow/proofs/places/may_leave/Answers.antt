use Rattle.std.proofs.Common.{sym, ◌∙◌}
use Rattle.code_flow.proofs.Placing.{leave_exact}
use Rattle.code_flow.proofs.places.may_leave.Goals as goal

pub returns : goal.returns
returns c = λ f e.
    let x = leave_exact f c.args.clauses.now c.args.k c.args.t e in
    (λ h. x.0 (sym c.all_release.ensures ∙ h), λ m. c.all_release.ensures ∙ x.1 m)
