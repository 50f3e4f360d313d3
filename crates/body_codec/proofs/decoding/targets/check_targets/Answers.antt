use Rattle.body_codec.proofs.Targets.{targets_more}
use Rattle.body_codec.proofs.decoding.targets.check_targets.Goals as goal

pub loop-mark-preserved : goal.loop-mark-preserved
loop-mark-preserved c =
    targets_more c.args.layout.now.code.now c.args.layout.now.marks.now c.loop-mark.mark-index _ c.requires.marked c.loop-mark-test.true c.loop-mark.invariant c.if-not-has_targets.ensures.good
