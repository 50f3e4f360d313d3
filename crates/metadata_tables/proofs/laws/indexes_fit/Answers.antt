use Rattle.metadata_tables.proofs.IndexFits.{fit}
use Rattle.metadata_tables.proofs.laws.indexes_fit.Goals as goal

pub returns : goal.returns
returns c = fit
