use Rattle.body_codec.specs.Reading.{pieces_of}
use Rattle.body_codec.proofs.Sections.{SectionTo}
use Rattle.body_codec.proofs.decoding.sections.read_section.Given as goal

abbrev pub invariant-loop-k : goal.invariant-loop-k
invariant-loop-k l = SectionTo l.bytes (pieces_of l.layout.code.now l.layout.marks.now) l.section.at l.fn.found l.found l.k
