use Rattle.std.proofs.Common.{sym, ◌∙◌}
use Rattle.code_flow.proofs.CodeLemmas.{runs_off_exact}
use Rattle.code_flow.proofs.code_rules.runs_off.Goals as goal

pub returns : goal.returns
returns c = λ f is len.
    let x = runs_off_exact f c.args.k c.args.ins.now c.args.count is len in
    (λ h. x.0 (sym c.falls_off.ensures ∙ h), λ r. c.falls_off.ensures ∙ x.1 r)
