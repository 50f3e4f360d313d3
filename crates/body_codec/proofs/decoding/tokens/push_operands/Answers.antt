use Rattle.body_codec.proofs.Tokens.{operands_more}
use Rattle.body_codec.proofs.decoding.tokens.push_operands.Goals as goal

pub loop-mark-preserved : goal.loop-mark-preserved
loop-mark-preserved c =
    operands_more c.args.code.now c.args.marks.now c.loop-mark.mark-index _ c.args.tokens.now c.loop-mark.tokens c.push_operand.new.tokens c.loop-mark-test.true c.loop-mark.invariant
    c.in_ok-push_operand.ensures
