use Rattle.listing_nesting.proofs.Walks.{type_rows_are_read}
use Rattle.listing_nesting.proofs.laws.type_rows_are_read.Goals as goal

pub returns : goal.returns
returns c = type_rows_are_read c.searches_pass.ensures c.walks_pass.ensures
