use Rattle.std.proofs.Common.{drop}
use Rattle.image_tokens.specs.NamesWeight.{instruction_names}
use Rattle.image_tokens.specs.BodyTokens.{HasInstructionToken}
use Rattle.image_tokens.specs.Writable.{IsInstructionWritable}
use Rattle.image_tokens.proofs.StepLemmas.{AreDoneTo}
use Rattle.image_tokens.proofs.body_tokens.note_code.Given as goal

abbrev pub invariant-loop-ins : goal.invariant-loop-ins
invariant-loop-ins l = AreDoneTo instruction_names IsInstructionWritable HasInstructionToken l.initial.refs l.refs l.code (drop l.ins-index l.code)
