use Rattle.body_outlines.proofs.OperandUses.{catches_more}
use Rattle.body_outlines.proofs.uses.catches_of.Goals as goal

pub loop-one-preserved : goal.loop-one-preserved
loop-one-preserved c =
    catches_more c.args.found.now c.loop-one.one-index _ c.loop-one.tokens c.push_catch.new.tokens c.loop-one-test.true c.loop-one.invariant c.in_ok-push_catch.ensures
