use Rattle.type_hierarchy.specs.Normal.{normal}
use Rattle.type_hierarchy.specs.Reading.{reading_by}
use Rattle.type_hierarchy.proofs.Steps.{map_step}
use Rattle.type_hierarchy.proofs.normal.+normal.Goals as goal

pub normalised_all-loop-t-preserved : goal.normalised_all-loop-t-preserved
normalised_all-loop-t-preserved t c =
    let e = map_step (normal (reading_by c.args.values.now c.args.means.now)) c.args.types.now c.loop-t.t-index c.t-item.result c.loop-t-test.true c.t-item.is in
    let p = c.in_ok-push.ensures.ok in
    let n = c.in_ok-t.ensures in
    cc
