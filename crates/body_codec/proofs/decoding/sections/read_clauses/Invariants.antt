use Rattle.std.proofs.Common.{length, ◌-◌}
use Rattle.body_codec.specs.Reading.{pieces_of}
use Rattle.body_codec.specs.ReadingClauses.{ReadsTo}
use Rattle.body_codec.proofs.decoding.sections.read_clauses.Given as goal

abbrev pub invariant-loop-section : goal.invariant-loop-section
invariant-loop-section l = ReadsTo l.bytes (pieces_of l.layout.code.now l.layout.marks.now) l.found l.at

abbrev pub decreases-loop-section : goal.decreases-loop-section
decreases-loop-section l = length l.bytes - l.at
