use Rattle.std.proofs.Common.{sym, ◌∙◌}
use Rattle.code_flow.proofs.CodeLemmas.{misplaced_exact}
use Rattle.code_flow.proofs.code_rules.is_misplaced.Goals as goal

pub returns : goal.returns
returns c = λ f is e.
    let x = misplaced_exact f c.args.k c.args.ins.now c.args.clauses.now is e in
    (λ h. x.0 (sym c.out_of_place.ensures ∙ h), λ r. c.out_of_place.ensures ∙ x.1 r)
