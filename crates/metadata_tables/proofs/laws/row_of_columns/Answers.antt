use Rattle.metadata_tables.proofs.RowOf.{row_of}
use Rattle.metadata_tables.proofs.laws.row_of_columns.Goals as goal

pub returns : goal.returns
returns c = row_of
