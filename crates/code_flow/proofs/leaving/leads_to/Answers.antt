use Rattle.std.proofs.Common.{◌∙◌, ap}
use Rattle.code_flow.specs.GoingTests.{goes_through}
use Rattle.code_flow.proofs.NearLemmas.{through_by}
use Rattle.code_flow.proofs.leaving.leads_to.Goals as goal

pub returns : goal.returns
returns c = c.goes_through.ensures ∙ ap (λ l. goes_through c.args.leave c.args.target l) c.as_slice.ensures ∙ through_by c.args.leave c.args.clauses.now c.near.result.now c.near.ensures c.args.target
