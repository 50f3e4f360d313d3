use Rattle.listing_constants.proofs.Strings.{strings_are_read}
use Rattle.listing_constants.proofs.laws.strings_are_read.Goals as goal

pub returns : goal.returns
returns c = strings_are_read c.texts_are_read.ensures c.bytes_are_read.ensures
