use Rattle.std.proofs.Common.{◌≡◌, Some, sym, rules, SFits, w32, to_z, of_z}
use Rattle.std.proofs.lemmas.Int.{to_z-of_z}
use Rattle.type_terms.specs.Hashing.{mix_bound}
use Rattle.sig_codec.specs.Reading.{signed_at}
use Rattle.signature_facts.specs.Scanning.{mixed_at}
use Rattle.signature_facts.proofs.Loops.{mixing_goes_on}
use Rattle.signature_facts.proofs.numbers.each_bound_at.Goals as goal

pub loop-preserved : goal.loop-preserved
loop-preserved c =
    let fits : SFits w32 c.in_ok-number.number = search rules in
    let is : to_z w32 (of_z w32 c.in_ok-number.number) ≡ c.in_ok-number.number = simp to_z-of_z in
    rw (c.mix-hash.ensures, c.from.ensures, c.unsigned_abs.ensures.value, is)
    (mixing_goes_on signed_at mix_bound c.loop.hash c.args.count c.loop.counter c.loop.rest.now c.in_ok-number.number c.in_ok-number.after.now
    (mixed_at signed_at mix_bound 0 c.args.count c.args.bytes.now) c.loop-test.true (sym c.in_ok-number.ensures) c.loop.invariant)
