-- answers for src/laws.rt
use Rattle.laws_image_parts.proofs.CodeLemmas.{code_is_read}
use Rattle.laws_image_parts.proofs.laws.code_is_read.Goals as goal

pub returns : goal.returns
returns c = code_is_read
