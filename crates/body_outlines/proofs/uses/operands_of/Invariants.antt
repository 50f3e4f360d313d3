use Rattle.std.proofs.Common.{◌≡◌, take}
use Rattle.std.specs.List.{filter_map}
use Rattle.body_codec.specs.Reading.{pieces_of}
use Rattle.body_outlines.specs.Outlines.{use_in}
use Rattle.body_outlines.proofs.uses.operands_of.Given as goal

abbrev pub invariant-loop-mark : goal.invariant-loop-mark
invariant-loop-mark l = l.uses ≡ filter_map use_in (take l.mark-index (pieces_of l.code l.marks))
