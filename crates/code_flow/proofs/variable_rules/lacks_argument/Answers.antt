use Rattle.std.proofs.Common.{sym, ◌∙◌}
use Rattle.code_flow.proofs.VariableLemmas.{argument_exact}
use Rattle.code_flow.proofs.variable_rules.lacks_argument.Goals as goal

pub returns : goal.returns
returns c = λ f k is at len.
    let x = argument_exact f k c.args.ins.now c.args.count c.args.number is at len in
    (λ h. x.0 (sym c.lacks_argument_of.ensures ∙ h), λ r. c.lacks_argument_of.ensures ∙ x.1 r)
