use Rattle.listing_terms.proofs.Names.{path_read}
use Rattle.listing_terms.proofs.laws.paths_are_read.Goals as goal

pub returns : goal.returns
returns c = path_read c.names_are_read.ensures c.rows_are_read.ensures
