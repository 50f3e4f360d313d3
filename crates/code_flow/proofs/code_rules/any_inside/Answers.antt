use Rattle.std.proofs.Common.{◌∙◌, ap}
use Rattle.code_flow.specs.CodeTests.{is_inside}
use Rattle.code_flow.proofs.NearLemmas.{inside_near}
use Rattle.code_flow.proofs.code_rules.any_inside.Goals as goal

pub returns : goal.returns
returns c = c.any_inside_among.ensures ∙ ap (λ l. is_inside l c.args.k) c.as_slice.ensures ∙ inside_near c.args.k c.args.clauses.now c.near.result.now c.near.ensures
