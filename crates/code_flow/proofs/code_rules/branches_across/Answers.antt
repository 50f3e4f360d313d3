use Rattle.std.proofs.Common.{sym, ◌∙◌}
use Rattle.code_flow.proofs.CodeLemmas.{branches_exact}
use Rattle.code_flow.proofs.code_rules.branches_across.Goals as goal

pub returns : goal.returns
returns c = λ f is e.
    let x = branches_exact f c.args.k c.args.ins.now c.args.clauses.now is e in
    (λ h. x.0 (sym c.branches_out.ensures ∙ h), λ r. c.branches_out.ensures ∙ x.1 r)
