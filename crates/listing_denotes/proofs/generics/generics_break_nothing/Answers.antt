use Rattle.listing_denotes.proofs.GenericsWhole.{generics_break_nothing}
use Rattle.listing_denotes.proofs.generics.generics_break_nothing.Goals as goal

pub returns : goal.returns
returns c =
    generics_break_nothing c.unasked_break_nothing.ensures c.numbers_are_read.ensures c.numbers_alone.ensures c.flags_break_nothing.ensures
    c.rows_break_nothing.ensures c.segments_are_read.ensures c.terms_break_nothing.ensures c.attributes_break_nothing.ensures c.generics_are_read.ensures
