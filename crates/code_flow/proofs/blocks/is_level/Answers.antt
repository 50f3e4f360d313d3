use Rattle.std.proofs.Common.{sym, ◌∙◌}
use Rattle.code_flow.proofs.Levels.{level_exact}
use Rattle.code_flow.proofs.blocks.is_level.Goals as goal

pub returns : goal.returns
returns c = λ cs e.
    let x = level_exact cs c.args.clauses.now c.args.k c.args.t e in
    (λ h. x.0 (sym c.all_are_level.ensures ∙ h), λ l. c.all_are_level.ensures ∙ x.1 l)
