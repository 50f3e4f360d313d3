use Rattle.std.proofs.Common.{arith}
use Rattle.method_states.proofs.Marking.{besides_none, operands_more, operands_whole}
use Rattle.method_states.proofs.tokens.mark_operands.Goals as goal

pub loop-one-init : goal.loop-one-init
loop-one-init c = besides_none c.args.marks.now

pub loop-one-preserved : goal.loop-one-preserved
loop-one-preserved c =
    operands_more c.args.marks.now c.loop-one.marks c.mark_token.new.marks c.args.uses.now c.loop-one.one-index _ c.loop-one-test.true c.loop-one.invariant c.mark_token.ensures

pub returns : goal.returns
returns c = operands_whole c.args.marks.now c.loop-one.marks c.args.uses.now c.loop-one.one-index (omega arith) c.loop-one.invariant
