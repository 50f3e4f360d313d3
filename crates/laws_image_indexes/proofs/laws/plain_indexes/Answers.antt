use Rattle.laws_image_indexes.proofs.PlainTables.{plain}
use Rattle.laws_image_indexes.proofs.laws.plain_indexes.Goals as goal

pub returns : goal.returns
returns c = plain
