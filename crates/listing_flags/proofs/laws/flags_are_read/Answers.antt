use Rattle.listing_flags.proofs.Flags.{flags_are_read}
use Rattle.listing_flags.proofs.laws.flags_are_read.Goals as goal

pub returns : goal.returns
returns c = flags_are_read c.numbers_are_read.ensures c.flags_are_told.ensures
