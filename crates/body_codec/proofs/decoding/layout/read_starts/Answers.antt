use Rattle.std.proofs.Common.{arith}
use Rattle.body_codec.proofs.Places.{starts_none, starts_more, place_inside, count_small}
use Rattle.body_codec.proofs.decoding.layout.read_starts.Goals as goal

pub loop-k-init : goal.loop-k-init
loop-k-init c = rw c.in_ok-starts.ensures (starts_none c.args.code.now c.args.marks.now)

pub loop-k-preserved : goal.loop-k-preserved
loop-k-preserved c =
    let code = c.args.code.now in
    let marks = c.args.marks.now in
    let here = c.requires.starts c.loop-k.k _ c.loop-k-test.true in
    let within = place_inside code marks c.loop-k.k c.requires c.loop-k-test.true in
    rw c.set.ensures (starts_more code marks c.loop-k.k _ c.loop-k.starts c.loop-k.invariant here (omega arith))

pub overflow_cast-k : goal.overflow_cast-k
overflow_cast-k c =
    let few = count_small c.args.code.now c.args.marks.now c.requires in
    let small = c.requires.small in
    let lt = c.loop-k-test.true in
    omega arith
