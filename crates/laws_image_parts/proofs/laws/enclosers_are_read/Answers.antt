-- answers for src/laws.rt
use Rattle.laws_image_parts.proofs.EncloserLemmas.{are_enclosed}
use Rattle.laws_image_parts.proofs.laws.enclosers_are_read.Goals as goal

pub returns : goal.returns
returns c = are_enclosed
