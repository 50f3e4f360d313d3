use Rattle.image_methods.proofs.Overriding.{at_row, nearer}
use Rattle.image_weights.specs.RowWeights.{override_row}
use Rattle.image_weights.proofs.Overrides.{Weighs, taken_begin, taken_on, taken_end}
use Rattle.image_weights.proofs.override_rows.charge_overrides.Goals as goal

pub loop-at-init : goal.loop-at-init
loop-at-init g c =
    let image = c.args.source.now.image.now in
    let f = override_row image (g.W.RowWeights.told c.args.source.now.weights.now) in
    taken_begin image c.args.chains.now c.requires c.args.row f c.args.left c.first-at.result c.first-at.ensures

pub loop-at-preserved : goal.loop-at-preserved
loop-at-preserved g c =
    let image = c.args.source.now.image.now in
    let f = override_row image (g.W.RowWeights.told c.args.source.now.weights.now) in
    taken_on image c.args.chains.now c.requires c.args.row f c.args.left c.loop-at.at c.next-at.result c.loop-at.left c.charge_override-left.result c.loop-at-test.true c.loop-at.invariant c.charge_override-left.ensures c.next-at.ensures

pub returns : goal.returns
returns g c =
    let image = c.args.source.now.image.now in
    let f = override_row image (g.W.RowWeights.told c.args.source.now.weights.now) in
    taken_end image c.args.chains.now c.requires c.args.row f c.args.left c.loop-at.at c.loop-at.left c.loop-at-test.false c.loop-at.invariant

pub charge_override-left-requires : goal.charge_override-left-requires
charge_override-left-requires g c =
    let image = c.args.source.now.image.now in
    let f = override_row image (g.W.RowWeights.told c.args.source.now.weights.now) in
    let r = at_row image c.args.chains.now c.requires c.args.row (Weighs f) c.loop-at.at c.loop-at.invariant.all c.loop-at-test.true c.loop-at.invariant.led in
    (r.0, r.1)

pub next-at-requires-clause-there : goal.next-at-requires-clause-there
next-at-requires-clause-there g c =
    let image = c.args.source.now.image.now in
    let f = override_row image (g.W.RowWeights.told c.args.source.now.weights.now) in
    (at_row image c.args.chains.now c.requires c.args.row (Weighs f) c.loop-at.at c.loop-at.invariant.all c.loop-at-test.true c.loop-at.invariant.led).2

pub loop-at-smaller : goal.loop-at-smaller
loop-at-smaller g c =
    let image = c.args.source.now.image.now in
    let f = override_row image (g.W.RowWeights.told c.args.source.now.weights.now) in
    let r = at_row image c.args.chains.now c.requires c.args.row (Weighs f) c.loop-at.at c.loop-at.invariant.all c.loop-at-test.true c.loop-at.invariant.led in
    nearer image c.args.chains.now c.requires c.args.row c.loop-at.at c.next-at.result c.loop-at-test.true r.2 c.next-at.ensures
