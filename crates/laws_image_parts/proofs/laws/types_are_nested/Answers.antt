-- answers for src/laws.rt
use Rattle.laws_image_parts.proofs.EncloserLemmas.{types_nested}
use Rattle.laws_image_parts.proofs.laws.types_are_nested.Goals as goal

pub returns : goal.returns
returns c = types_nested
