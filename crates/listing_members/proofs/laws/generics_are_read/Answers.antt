use Rattle.listing_members.proofs.Typars.{generics_are_read}
use Rattle.listing_members.proofs.laws.generics_are_read.Goals as goal

pub returns : goal.returns
returns c =
    generics_are_read c.names_are_read.ensures c.flags_are_read.ensures c.owners_are_read.ensures c.attributes_are_read.ensures c.formed_are_readable.ensures c.members_stand.ensures c.searches_pass.ensures c.options_are_read.ensures c.segments_are_read.ensures
