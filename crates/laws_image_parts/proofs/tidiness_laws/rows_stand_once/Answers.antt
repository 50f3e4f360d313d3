-- answers for src/laws.rt
use Rattle.laws_image_parts.proofs.tidiness.RowLemmas.{rows_stand_once}
use Rattle.laws_image_parts.proofs.tidiness_laws.rows_stand_once.Goals as goal

pub returns : goal.returns
returns c = rows_stand_once c.tables_are_read.ensures
