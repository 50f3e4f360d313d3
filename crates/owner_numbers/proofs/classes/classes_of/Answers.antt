use Rattle.std.proofs.Common.{◌≡◌, ◌+◌, ◌<◌, ◌≤◌, arith}
use Rattle.owner_numbers.proofs.Steps.{none_done, all_sorted}
use Rattle.owner_numbers.proofs.classes.classes_of.Goals as goal

pub loop-level-init : goal.loop-level-init
loop-level-init g c =
    (c.in_ok-sorted.ensures, none_done c.args.given.now.image.now (g.F.Owners.facts c.args.given.now.facts.now) c.in_ok-sorted.sorted)

pub loop-level-preserved : goal.loop-level-preserved
loop-level-preserved g c = (c.in_ok-sort_level.ensures.sorted, c.in_ok-sort_level.ensures.done)

pub returns : goal.returns
returns g c =
    let image = c.args.given.now.image.now in
    let facts = g.F.Owners.facts c.args.given.now.facts.now in
    let t = c.loop-level-test.false in
    let f = c.from-levels.ensures in
    all_sorted image c.args.given.now.names.now facts c.requires c.loop-level.sorted c.loop-level.level c.deepest.result c.loop-level.invariant.0 c.loop-level.invariant.1
    (λ row d some within is. c.deepest.ensures row d some (omega (arith, c.spec_count-count.ensures)) is) (omega arith)
