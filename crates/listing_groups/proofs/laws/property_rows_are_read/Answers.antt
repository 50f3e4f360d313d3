use Rattle.listing_groups.proofs.Properties.{property_rows_are_read}
use Rattle.listing_groups.proofs.laws.property_rows_are_read.Goals as goal

pub returns : goal.returns
returns c = property_rows_are_read c.properties_are_read.ensures
