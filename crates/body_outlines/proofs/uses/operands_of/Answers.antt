use Rattle.body_outlines.proofs.OperandUses.{operands_more}
use Rattle.body_outlines.proofs.uses.operands_of.Goals as goal

pub loop-mark-preserved : goal.loop-mark-preserved
loop-mark-preserved c =
    operands_more c.args.code.now c.args.marks.now c.loop-mark.mark-index _ c.loop-mark.uses c.push_operand.new.uses c.loop-mark-test.true c.loop-mark.invariant c.in_ok-push_operand.ensures
