-- answers for src/laws.rt
use Rattle.laws_image_parts.proofs.tidiness.UsedTables.{indexes_in_use}
use Rattle.laws_image_parts.proofs.tidiness_laws.indexes_are_in_use.Goals as goal

pub returns : goal.returns
returns c = indexes_in_use
