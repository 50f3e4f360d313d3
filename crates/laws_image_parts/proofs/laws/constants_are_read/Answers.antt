-- answers for src/laws.rt
use Rattle.laws_image_parts.proofs.ConstantLemmas.{constants_are_read}
use Rattle.laws_image_parts.proofs.laws.constants_are_read.Goals as goal

pub returns : goal.returns
returns c = constants_are_read
