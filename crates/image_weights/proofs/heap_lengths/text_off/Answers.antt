use Rattle.std.proofs.Common.{arith}
use Rattle.image_weights.proofs.TextLengths.{at_zero, at_index}
use Rattle.image_weights.proofs.heap_lengths.text_off.Goals as goal

pub returns-then-at-eq0 : goal.returns-then-at-eq0
returns-then-at-eq0 c = let z = at_zero c.args.heap.now c.args.at c.if-at-eq0.true in omega (arith, z)

pub loop-left-preserved : goal.loop-left-preserved
loop-left-preserved c =
    let m = c.goes_on.ensures.more c.if-not-goes_on.false in
    let e = m.1 in
    let i = c.loop-left.invariant in
    let t = c.loop-left-test.true in
    omega (arith, e, i, t)

pub returns-then-not-goes_on : goal.returns-then-not-goes_on
returns-then-not-goes_on c =
    let z = c.goes_on.ensures.end c.if-not-goes_on.true in
    let i = c.loop-left.invariant in
    let w = at_index c.args.heap.now c.args.at c.if-at-eq0.false in
    omega (arith, z, i, w)

pub returns : goal.returns
returns c =
    let i = c.loop-left.invariant in
    let t = c.loop-left-test.false in
    let w = at_index c.args.heap.now c.args.at c.if-at-eq0.false in
    omega (arith, i, t, w)
