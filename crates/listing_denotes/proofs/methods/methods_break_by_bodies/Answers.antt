use Rattle.listing_denotes.proofs.MethodsWhole.{methods_break_by_bodies}
use Rattle.listing_denotes.proofs.methods.methods_break_by_bodies.Goals as goal

pub returns : goal.returns
returns c =
    methods_break_by_bodies c.unasked_break_nothing.ensures c.numbers_are_read.ensures c.numbers_alone.ensures c.flags_break_nothing.ensures
    c.constants_break_nothing.ensures c.rows_break_nothing.ensures c.segments_are_read.ensures c.pieces_are_read.ensures c.searches_pass.ensures
    c.terms_break_nothing.ensures c.references_break_nothing.ensures c.plain_references_have_none.ensures c.attributes_break_nothing.ensures
    c.generics_break_nothing.ensures c.generics_are_read.ensures c.heads_are_read.ensures c.declarations_are_read.ensures
