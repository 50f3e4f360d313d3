use Rattle.body_codec.specs.Faults.{HaveTargets}
use Rattle.body_codec.specs.Reading.{pieces_of}
use Rattle.body_codec.proofs.decoding.targets.check_targets.Given as goal

abbrev pub invariant-loop-mark : goal.invariant-loop-mark
invariant-loop-mark l = HaveTargets (pieces_of l.layout.code.now l.layout.marks.now) l.mark-index
