use Rattle.std.proofs.Common.{length, ◌-◌}
use Rattle.body_codec.specs.Reading.{MarksTo}
use Rattle.body_codec.proofs.decoding.marks.read_marks.Given as goal

abbrev pub invariant-loop-at : goal.invariant-loop-at
invariant-loop-at l = MarksTo l.code l.marks l.at

abbrev pub decreases-loop-at : goal.decreases-loop-at
decreases-loop-at l = length l.code - l.at
