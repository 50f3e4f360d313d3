use Rattle.std.proofs.Common.{ap, arith, length}
use Rattle.ilasm_grammar.specs.declared.productions.TheConstants.{METHOD}
use Rattle.source_syntax.proofs.SizeLemmas.{the_smaller}
use Rattle.check_members.proofs.member_reading.Signatures.add_method.Goals as goal

pub member-requires-clause-few : goal.member-requires-clause-few
member-requires-clause-few g c =
    let b = c.requires.forest in
    omega (arith, the_smaller METHOD b.0, ap length (c.the-own.ensures b.0 b.1), ap length b.1, c.requires.few)
