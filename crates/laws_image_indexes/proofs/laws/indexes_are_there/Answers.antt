use Rattle.laws_image_indexes.proofs.ReferenceTables.{all_tables}
use Rattle.laws_image_indexes.proofs.laws.indexes_are_there.Goals as goal

pub returns : goal.returns
returns c = all_tables
