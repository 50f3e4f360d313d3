use Rattle.std.proofs.Common.{◌∙◌, ◌++◌}
use Rattle.code_flow.specs.Regions.{guards_among}
use Rattle.code_flow.proofs.NearLemmas.{guards_by}
use Rattle.code_flow.proofs.guarding.guards_near.Goals as goal

pub returns : goal.returns
returns c =
    c.in_ok-add_guards.ensures ∙ (λ i. c.new-guards.ensures i ++ guards_among c.args.k (c.as_slice.ensures i)) ∙ guards_by c.args.k c.args.clauses.now c.near.result.now c.near.ensures
