use Rattle.std.proofs.Common.{◌≡◌, Some, sym, rules, SFits, w32, to_z, of_z}
use Rattle.std.proofs.lemmas.Int.{to_z-of_z}
use Rattle.sig_codec.specs.Reading.{each_at, signed_at}
use Rattle.sig_codec.proofs.Loop.{goes_on}
use Rattle.sig_codec.proofs.number.each_signed_at.Goals as goal

pub loop-preserved : goal.loop-preserved
loop-preserved c =
    let fits : SFits w32 c.in_ok-number.number = search rules in
    let is : to_z w32 (of_z w32 c.in_ok-number.number) ≡ c.in_ok-number.number = simp to_z-of_z in
    let step : signed_at c.loop.rest.now ≡ Some (c.in_ok-number.number, c.in_ok-number.after.now) = sym (rw c.in_ok-number.ensures.ok_part at c.signed_at.ensures) in
    rw (c.in_ok-push.ensures.ok, is) (goes_on signed_at c.loop.numbers c.args.count c.loop.counter c.loop.rest.now c.in_ok-number.number c.in_ok-number.after.now (each_at signed_at c.args.count c.args.bytes.now) c.loop-test.true step c.loop.invariant)
