use Rattle.image_layout.proofs.ReadLemmas.{reads_tables}
use Rattle.image_layout.proofs.laws.tables_are_read.Goals as goal

pub returns : goal.returns
returns c = reads_tables c.longer_stream.ensures
