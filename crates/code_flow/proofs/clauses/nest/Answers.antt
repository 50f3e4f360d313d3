use Rattle.std.proofs.Common.{sym, ◌∙◌}
use Rattle.code_flow.proofs.Nesting.{nest_exact}
use Rattle.code_flow.proofs.clauses.nest.Goals as goal

pub returns : goal.returns
returns c = λ cs e f.
    let x = nest_exact cs c.args.clauses.now e f in
    (λ h. x.0 (sym c.all_nest.ensures ∙ h), λ n. c.all_nest.ensures ∙ x.1 n)
