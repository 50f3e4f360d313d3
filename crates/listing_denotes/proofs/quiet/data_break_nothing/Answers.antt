use Rattle.listing_denotes.proofs.QuietData.{data_break_nothing}
use Rattle.listing_denotes.proofs.quiet.data_break_nothing.Goals as goal

pub returns : goal.returns
returns c = data_break_nothing c.unasked_break_nothing.ensures c.bytes_are_read.ensures c.contents_are_held.ensures c.declarations_are_read.ensures
