-- answers for src/laws.rt
use Rattle.laws_image_parts.proofs.OwnedLemmas.{owned_are_read}
use Rattle.laws_image_parts.proofs.laws.owned_are_read.Goals as goal

pub returns : goal.returns
returns c = owned_are_read
