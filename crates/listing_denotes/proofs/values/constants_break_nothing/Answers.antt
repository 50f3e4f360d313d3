use Rattle.listing_denotes.proofs.ValuesConstants.{constants_break_nothing}
use Rattle.listing_denotes.proofs.values.constants_break_nothing.Goals as goal

pub returns : goal.returns
returns c = constants_break_nothing c.unasked_break_nothing.ensures c.numbers_are_read.ensures c.numbers_alone.ensures c.constants_are_read.ensures
