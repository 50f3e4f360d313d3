use Rattle.std.proofs.Common.{sym, ◌∙◌}
use Rattle.code_flow.proofs.CodeLemmas.{falls_exact}
use Rattle.code_flow.proofs.code_rules.falls_across.Goals as goal

pub returns : goal.returns
returns c = λ f is have e.
    let x = falls_exact f c.args.k c.args.ins.now c.args.marks.now c.args.clauses.now is have e in
    (λ h. x.0 (sym c.falls_out.ensures ∙ h), λ r. c.falls_out.ensures ∙ x.1 r)
