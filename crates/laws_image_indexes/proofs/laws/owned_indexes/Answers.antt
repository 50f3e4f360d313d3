use Rattle.laws_image_indexes.proofs.OwnedTables.{owned_tables}
use Rattle.laws_image_indexes.proofs.laws.owned_indexes.Goals as goal

pub returns : goal.returns
returns c = owned_tables
