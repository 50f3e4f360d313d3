use Rattle.listing_members.proofs.Fields.{fields_are_read}
use Rattle.listing_members.proofs.laws.fields_are_read.Goals as goal

pub returns : goal.returns
returns c =
    fields_are_read c.names_are_read.ensures c.numbers_are_read.ensures c.flags_are_read.ensures c.labels_are_read.ensures c.constants_are_read.ensures c.formed_are_read.ensures c.formed_are_readable.ensures c.members_stand.ensures c.searches_pass.ensures c.options_are_read.ensures
