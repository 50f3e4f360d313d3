use Rattle.listing_denotes.proofs.QuietRows.{rows_break_nothing}
use Rattle.listing_denotes.proofs.quiet.rows_break_nothing.Goals as goal

pub returns : goal.returns
returns c = rows_break_nothing c.unasked_break_nothing.ensures c.searches_pass.ensures
