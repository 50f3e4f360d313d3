use Rattle.std.proofs.Common.{ap, sym, ◌∙◌}
use Rattle.source_model.specs.Shapes.{natural}
use Rattle.source_model.specs.Values.{int_at}
use Rattle.source_flags.proofs.Bits.{of_32_bits}
use Rattle.source_flags.proofs.naturals.natural_32.Goals as goal

pub returns : goal.returns
returns c s r e =
    let n = of_32_bits (int_at s c.args.token) e in
    c.natural.ensures s r n.0 n.1 n.2 ∙ sym (ap natural n.1)
