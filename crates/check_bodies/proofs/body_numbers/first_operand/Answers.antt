use Rattle.std.proofs.Common.{ap, sym, subst, ◌∙◌}
use Rattle.source_model.specs.Instructions.{instructions_of}
use Rattle.source_nodes.specs.Least.{least}
use Rattle.source_nodes.specs.Pieces.{ArePieces}
use Rattle.check_bodies.specs.OperandRanges.{operand_at_fault}
use Rattle.check_bodies.proofs.CodeLemmas.{without_numbers}
use Rattle.check_bodies.proofs.body_numbers.first_operand.Goals as goal

pub returns : goal.returns
returns c s n r m e =
    let f = n.below in
    let ps = instructions_of f in
    let code = subst (λ xs. ArePieces c.args.method.now xs ps) (sym c.as_slice.ensures) (c.in_ok-code.ensures f e) in
    c.in_ok-first.ensures s n r m.bodies (λ _ _ _ _. c.in_ok-variables.ensures s n r m e) code
    ∙ ap least (without_numbers (operand_at_fault s f) 0 ps)
