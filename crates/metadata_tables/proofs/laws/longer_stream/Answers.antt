use Rattle.metadata_tables.proofs.Longer.{longer}
use Rattle.metadata_tables.proofs.laws.longer_stream.Goals as goal

pub returns : goal.returns
returns c = longer
