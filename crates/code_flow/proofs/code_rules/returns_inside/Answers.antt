use Rattle.std.proofs.Common.{sym, ◌∙◌}
use Rattle.code_flow.proofs.CodeLemmas.{returns_exact}
use Rattle.code_flow.proofs.code_rules.returns_inside.Goals as goal

pub returns : goal.returns
returns c = λ f is e.
    let x = returns_exact f c.args.k c.args.ins.now c.args.clauses.now is e in
    (λ h. x.0 (sym c.returns_in_block.ensures ∙ h), λ r. c.returns_in_block.ensures ∙ x.1 r)
