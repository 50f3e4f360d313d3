use Rattle.std.proofs.Common.{arith}
use Rattle.image_tokens.proofs.NameHashLemmas.{number_below, power_below}
use Rattle.image_tokens.proofs.name_hashes.number_of.Goals as goal

pub overflow_mul-number : goal.overflow_mul-number
overflow_mul-number c =
    let at = c.loop-byte.byte-index in
    let below = number_below c.args.text.now (λ i. omega (arith, c.type_inv.text i)) at (omega (arith, c.loop-byte-test.true)) in
    let power = power_below at 6 (omega (arith, c.loop-byte-test.true, c.requires)) in
    omega (arith, below, power, c.loop-byte.invariant)

pub overflow_add-number : goal.overflow_add-number
overflow_add-number c =
    let at = c.loop-byte.byte-index in
    let below = number_below c.args.text.now (λ i. omega (arith, c.type_inv.text i)) at (omega (arith, c.loop-byte-test.true)) in
    let power = power_below at 6 (omega (arith, c.loop-byte-test.true, c.requires)) in
    omega (arith, below, power, c.loop-byte.invariant, c.from.ensures, c.type_inv.text at)
