use Rattle.listing_constants.proofs.Constants.{constants_are_read}
use Rattle.listing_constants.proofs.laws.constants_are_read.Goals as goal

pub returns : goal.returns
returns c = constants_are_read c.numbers_are_read.ensures c.strings_are_read.ensures
