use Rattle.std.proofs.Common.{sym, ◌∙◌}
use Rattle.code_flow.proofs.CodeLemmas.{unverified_exact}
use Rattle.code_flow.proofs.code_rules.is_unverified.Goals as goal

pub returns : goal.returns
returns c = λ f k is.
    let x = unverified_exact f k c.args.ins.now is in
    (λ h. x.0 (sym c.never_verified.ensures ∙ h), λ r. c.never_verified.ensures ∙ x.1 r)
