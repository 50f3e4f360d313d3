use Rattle.std.proofs.Common.{◌≡◌, Some, sym}
use Rattle.sig_codec.specs.Reading.{each_at, number_at}
use Rattle.sig_codec.proofs.Loop.{goes_on}
use Rattle.sig_codec.proofs.number.each_number_at.Goals as goal

pub loop-preserved : goal.loop-preserved
loop-preserved c =
    let step : number_at c.loop.rest.now ≡ Some (c.in_ok-number.number, c.in_ok-number.after.now) = sym (rw c.in_ok-number.ensures.ok_part at c.number_at.ensures) in
    rw c.in_ok-push.ensures.ok (goes_on number_at c.loop.numbers c.args.count c.loop.counter c.loop.rest.now c.in_ok-number.number c.in_ok-number.after.now (each_at number_at c.args.count c.args.bytes.now) c.loop-test.true step c.loop.invariant)
