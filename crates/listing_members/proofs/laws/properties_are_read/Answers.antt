use Rattle.listing_members.proofs.Properties.{properties_are_read}
use Rattle.listing_members.proofs.laws.properties_are_read.Goals as goal

pub returns : goal.returns
returns c =
    properties_are_read c.names_are_read.ensures c.flags_are_read.ensures c.constants_are_read.ensures c.attributes_are_read.ensures c.conventions_are_read.ensures c.arguments_are_read.ensures c.formed_are_read.ensures c.formed_are_readable.ensures c.searches_pass.ensures c.options_are_read.ensures c.segments_are_read.ensures c.pieces_are_read.ensures c.walks_pass.ensures
