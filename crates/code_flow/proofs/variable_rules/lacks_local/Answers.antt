use Rattle.std.proofs.Common.{sym, ◌∙◌}
use Rattle.code_flow.proofs.VariableLemmas.{local_exact}
use Rattle.code_flow.proofs.variable_rules.lacks_local.Goals as goal

pub returns : goal.returns
returns c = λ f k is at len.
    let x = local_exact f k c.args.ins.now c.args.count c.args.number is at len in
    (λ h. x.0 (sym c.lacks_local_of.ensures ∙ h), λ r. c.lacks_local_of.ensures ∙ x.1 r)
