-- answers for src/laws.rt
use Rattle.laws_image_parts.proofs.ReadLemmas.{rows_read}
use Rattle.laws_image_parts.proofs.laws.rows_are_read.Goals as goal

pub returns : goal.returns
returns c = rows_read
