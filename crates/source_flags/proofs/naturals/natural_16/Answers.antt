use Rattle.std.proofs.Common.{◌≡◌, ◌<◌, ◌^◌, ap, sym, subst, ◌∙◌, arith}
use Rattle.source_model.specs.Shapes.{natural}
use Rattle.source_model.specs.Values.{int_at}
use Rattle.source_flags.proofs.Bits.{of_16_bits}
use Rattle.source_flags.proofs.naturals.natural_16.Goals as goal

pub returns : goal.returns
returns c s r e =
    let n = of_16_bits (int_at s c.args.token) e in
    let less = n.2 in
    let value : c.natural.result ≡ n.0 = c.natural.ensures s r n.0 n.1 (omega (arith, less)) in
    c.short_of.ensures (subst (λ m. m < 2 ^ 16) (sym value) less) ∙ value ∙ sym (ap natural n.1)
