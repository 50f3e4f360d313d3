use Rattle.listing_denotes.proofs.QuietHeaders.{headers_break_nothing}
use Rattle.listing_denotes.proofs.quiet.headers_break_nothing.Goals as goal

pub returns : goal.returns
returns c = headers_break_nothing c.numbers_are_read.ensures
