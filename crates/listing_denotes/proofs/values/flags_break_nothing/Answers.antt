use Rattle.listing_denotes.proofs.ValuesFlags.{flags_break_nothing}
use Rattle.listing_denotes.proofs.values.flags_break_nothing.Goals as goal

pub returns : goal.returns
returns c = flags_break_nothing c.unasked_break_nothing.ensures c.numbers_are_read.ensures c.numbers_alone.ensures
