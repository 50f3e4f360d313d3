use Rattle.std.proofs.Common.{◌≡◌, ◌<◌, ◌%◌, ◌^◌, drop, ap, ◌∙◌, arith}
use Rattle.std.proofs.Math.Nat.{mod-eq_of_lt}
use Rattle.source_model.specs.Values.{little_number}
use Rattle.lower_bodies.proofs.NumberLemmas.{little_below}
use Rattle.lower_bodies.proofs.reals.little_number.Goals as goal

pub returns : goal.returns
returns c few =
    let bytes = c.args.bytes.now in
    let end : c.loop-more.more ≡ 0 = omega (arith, c.loop-more-test.false) in
    let below : little_number bytes < 2 ^ 64 = little_below bytes (λ i. omega (arith, c.type_inv.bytes i)) 8 few in
    c.loop-more.invariant.so_far ∙ ap (λ m. little_number (drop m bytes) % 2 ^ 64) end ∙ mod-eq_of_lt below
