use Rattle.std.proofs.Common.{ap, sym, ◌∙◌}
use Rattle.source_model.specs.Instructions.{instructions_of}
use Rattle.source_nodes.specs.Least.{least}
use Rattle.check_bodies.specs.OperandRanges.{operand_at_fault}
use Rattle.check_bodies.proofs.CodeLemmas.{without_numbers}
use Rattle.check_bodies.proofs.WantedLemmas.{none_ranged}
use Rattle.check_bodies.proofs.bodies.operand_fault.Goals as goal

pub returns-then-not-has_ranged : goal.returns-then-not-has_ranged
returns-then-not-has_ranged c s n r m are variables =
    ap least (sym (none_ranged s n.below c.args.method.now c.args.code.now (instructions_of n.below) are (sym c.has_ranged.ensures ∙ c.if-not-has_ranged.true)))

pub returns : goal.returns
returns c s n r m are variables =
    c.in_ok-first.ensures s n r m.bodies variables are ∙ ap least (without_numbers (operand_at_fault s n.below) 0 (instructions_of n.below))
