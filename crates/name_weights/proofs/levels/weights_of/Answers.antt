use Rattle.std.proofs.Common.{◌≡◌, ◌+◌, min, arith}
use Rattle.name_weights.specs.Weights.{named_count}
use Rattle.name_weights.proofs.Steps.{weighed_all}
use Rattle.name_weights.proofs.levels.weights_of.Goals as goal

pub returns : goal.returns
returns c =
    let levels : c.loop-level.level ≡ min c.deepest.result 100 =
    (let done = c.loop-level-test.false in let end = c.loop-level.auto.level-end in let least = c.min-levels.ensures in omega (arith, done, end, least)) in
    let count : c.named_count-count.result + 1 ≡ named_count c.args.given.now.image + 1 = (let n = c.named_count-count.ensures.count in omega (arith, n)) in
    weighed_all c.args.given.now.image c.loop-level.level c.deepest.result (c.named_count-count.result + 1) c.loop-level.weights.items levels count c.deepest.ensures c.paths_are_short.ensures
    c.loop-level.invariant
