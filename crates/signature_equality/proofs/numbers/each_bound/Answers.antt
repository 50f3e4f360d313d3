use Rattle.std.proofs.Common.{sym}
use Rattle.signature_equality.specs.Walking.{same_each, same_signed}
use Rattle.signature_equality.proofs.Loops.{each_goes_on}
use Rattle.signature_equality.proofs.numbers.each_bound.Goals as goal

pub loop-preserved : goal.loop-preserved
loop-preserved c =
    each_goes_on same_signed c.args.count c.loop.counter (c.loop.at.a.now, c.loop.at.b.now) (c.in_ok-at.at.a.now, c.in_ok-at.at.b.now)
    (same_each same_signed c.args.count (c.args.at.a.now, c.args.at.b.now)) c.loop-test.true (sym c.in_ok-at.ensures) c.loop.invariant
