use Rattle.listing_keys.proofs.Differ.{keys_differ}
use Rattle.listing_keys.proofs.laws.keys_differ.Goals as goal

pub returns : goal.returns
returns c = keys_differ c.numbers_are_read.ensures
