-- answers for src/laws.rt
use Rattle.laws_image_parts.proofs.EntryLemmas.{entry_is_read}
use Rattle.laws_image_parts.proofs.laws.entry_is_read.Goals as goal

pub returns : goal.returns
returns c = entry_is_read
