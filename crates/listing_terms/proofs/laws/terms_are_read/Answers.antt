use Rattle.listing_terms.proofs.Types.{terms_are_read}
use Rattle.listing_terms.proofs.laws.terms_are_read.Goals as goal

pub returns : goal.returns
returns c = terms_are_read c.names_are_read.ensures c.numbers_are_read.ensures c.rows_are_read.ensures
