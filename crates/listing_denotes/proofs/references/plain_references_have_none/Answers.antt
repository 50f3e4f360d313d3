use Rattle.listing_denotes.proofs.ReferencesWhole.{plain_references_have_none}
use Rattle.listing_denotes.proofs.references.plain_references_have_none.Goals as goal

pub returns : goal.returns
returns c =
    plain_references_have_none c.unasked_break_nothing.ensures c.numbers_alone.ensures c.rows_break_nothing.ensures c.segments_are_read.ensures c.pieces_are_read.ensures
    c.searches_pass.ensures c.names_are_read.ensures c.numbers_are_read.ensures c.paths_are_read.ensures c.arguments_are_read.ensures c.terms_stand.ensures
    c.references_stand.ensures c.formed_are_readable.ensures c.keys_are_known.ensures c.paths_are_declared.ensures c.terms_break_nothing.ensures
