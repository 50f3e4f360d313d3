use Rattle.std.proofs.Common.{◌≡◌, Some, sym}
use Rattle.type_terms.specs.Hashing.{mix}
use Rattle.sig_codec.specs.Reading.{number_at}
use Rattle.signature_facts.specs.Scanning.{mixed_at}
use Rattle.signature_facts.proofs.Loops.{mixing_goes_on}
use Rattle.signature_facts.proofs.numbers.each_size_at.Goals as goal

pub loop-preserved : goal.loop-preserved
loop-preserved c =
    rw (c.mix-hash.ensures, c.from.ensures)
    (mixing_goes_on number_at mix c.loop.hash c.args.count c.loop.counter c.loop.rest.now c.in_ok-number.number c.in_ok-number.after.now
    (mixed_at number_at mix 0 c.args.count c.args.bytes.now) c.loop-test.true (sym c.in_ok-number.ensures) c.loop.invariant)
