use Rattle.listing_denotes.proofs.ReferencesWhole.{references_break_nothing}
use Rattle.listing_denotes.proofs.references.references_break_nothing.Goals as goal

pub returns : goal.returns
returns c =
    references_break_nothing c.unasked_break_nothing.ensures c.numbers_alone.ensures c.rows_break_nothing.ensures c.segments_are_read.ensures c.pieces_are_read.ensures
    c.searches_pass.ensures c.names_are_read.ensures c.numbers_are_read.ensures c.paths_are_read.ensures c.arguments_are_read.ensures c.terms_stand.ensures
    c.references_stand.ensures c.formed_are_readable.ensures c.keys_are_known.ensures c.paths_are_declared.ensures c.terms_break_nothing.ensures
