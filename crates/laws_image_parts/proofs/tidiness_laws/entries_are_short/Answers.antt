-- answers for src/laws.rt
use Rattle.laws_image_parts.proofs.tidiness.ContentLemmas.{entries_short}
use Rattle.laws_image_parts.proofs.tidiness_laws.entries_are_short.Goals as goal

pub returns : goal.returns
returns c = entries_short c.tables_are_read.ensures c.heaps_are_read.ensures c.indexes_are_in_use.ensures
