-- answers for src/laws.rt
use Rattle.laws_image_parts.proofs.PartLemmas.{parts_are_read}
use Rattle.laws_image_parts.proofs.laws.parts_are_read.Goals as goal

pub returns : goal.returns
returns c = parts_are_read
