use Rattle.metadata_tables.proofs.Pieces.{pieces_none}
use Rattle.metadata_tables.proofs.table_rows.TableRows.new.Goals as goal

pub returns : goal.returns
returns c = pieces_none 0 c.new.result
