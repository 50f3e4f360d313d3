use Rattle.std.proofs.Common.{ap, arith, length}
use Rattle.source_syntax.proofs.SizeLemmas.{the_smaller}
use Rattle.check_members.proofs.member_reading.Signatures.add.Goals as goal

pub member-requires-clause-few : goal.member-requires-clause-few
member-requires-clause-few g c =
    let b = c.requires.forest in
    let whole = ap length b.1 in
    let own = ap length (c.the-own.ensures b.0 b.1) in
    omega (arith, whole, own, the_smaller c.production.result b.0, c.requires.few)
