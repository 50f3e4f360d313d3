use Rattle.listing_denotes.proofs.MembersFields.{fields_break_nothing}
use Rattle.listing_denotes.proofs.members.fields_break_nothing.Goals as goal

pub returns : goal.returns
returns c =
    fields_break_nothing c.unasked_break_nothing.ensures c.numbers_are_read.ensures c.numbers_alone.ensures c.flags_break_nothing.ensures
    c.constants_break_nothing.ensures c.rows_break_nothing.ensures c.segments_are_read.ensures c.searches_pass.ensures c.options_are_read.ensures
    c.labels_are_read.ensures c.formed_are_read.ensures c.formed_are_readable.ensures c.members_stand.ensures c.terms_break_nothing.ensures
    c.attributes_break_nothing.ensures c.data_are_there.ensures c.listings_are_read.ensures c.declarations_are_read.ensures
