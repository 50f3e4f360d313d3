use Rattle.listing_constants.proofs.Attributes.{attributes_are_read}
use Rattle.listing_constants.proofs.laws.attributes_are_read.Goals as goal

pub returns : goal.returns
returns c = attributes_are_read c.formed_are_read.ensures c.formed_are_readable.ensures c.bytes_are_read.ensures c.values_stand.ensures c.searches_pass.ensures
