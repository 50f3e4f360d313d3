use Rattle.listing_denotes.proofs.QuietWhole.{listings_break_by_declarations}
use Rattle.listing_denotes.proofs.quiet.listings_break_by_declarations.Goals as goal

pub returns : goal.returns
returns c = listings_break_by_declarations c.unasked_break_nothing.ensures c.rows_break_nothing.ensures c.data_break_nothing.ensures
