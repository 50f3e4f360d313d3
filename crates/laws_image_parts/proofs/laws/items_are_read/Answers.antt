-- answers for src/laws.rt
use Rattle.laws_image_parts.proofs.ItemLemmas.{items_are_read}
use Rattle.laws_image_parts.proofs.laws.items_are_read.Goals as goal

pub returns : goal.returns
returns c = items_are_read
