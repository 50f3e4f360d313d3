use Rattle.std.proofs.Common.{◌≡◌, take}
use Rattle.std.specs.List.{sum_by}
use Rattle.body_codec.specs.Reading.{pieces_of}
use Rattle.body_outlines.specs.Outlines.{targets_in}
use Rattle.body_outlines.proofs.counts.targets_of.Given as goal

abbrev pub invariant-loop-mark : goal.invariant-loop-mark
invariant-loop-mark l = l.targets ≡ sum_by targets_in (take l.mark-index (pieces_of l.code l.marks))
