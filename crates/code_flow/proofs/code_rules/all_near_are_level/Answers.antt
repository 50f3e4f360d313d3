use Rattle.std.proofs.Common.{◌∙◌, ◌&&◌}
use Rattle.code_flow.specs.BlockTests.{is_level_test}
use Rattle.code_flow.proofs.NearLemmas.{level_near}
use Rattle.code_flow.proofs.code_rules.all_near_are_level.Goals as goal

pub returns : goal.returns
returns c =
    let k = c.args.k in
    let t = c.args.t in
    c.both.ensures ∙ (λ i. c.all_are_level-around.ensures i && c.all_are_level-beyond.ensures i) ∙ (λ i. is_level_test (c.as_slice.ensures i) k t && is_level_test (c.as_slice-2.ensures i) k t)
    ∙ level_near k t c.args.clauses.now c.near.result.now c.near-2.result.now c.near.ensures c.near-2.ensures
