use Rattle.std.proofs.Common.{◌∙◌, ◌&&◌}
use Rattle.code_flow.specs.PlaceTests.{may_leave_test}
use Rattle.code_flow.proofs.NearLemmas.{release_near}
use Rattle.code_flow.proofs.places.all_release.Goals as goal

pub returns : goal.returns
returns c =
    let k = c.args.k in
    let t = c.args.t in
    c.both.ensures ∙ (λ i. c.all_release_among-around.ensures i && c.all_release_among-beyond.ensures i) ∙ (λ i. may_leave_test (c.as_slice.ensures i) k t && may_leave_test (c.as_slice-2.ensures i) k t)
    ∙ release_near k t c.args.clauses.now c.near.result.now c.near-2.result.now c.near.ensures c.near-2.ensures
