use Rattle.listing_denotes.proofs.TermsTypes.{terms_break_nothing}
use Rattle.listing_denotes.proofs.terms.terms_break_nothing.Goals as goal

pub returns : goal.returns
returns c =
    terms_break_nothing c.unasked_break_nothing.ensures c.numbers_alone.ensures c.rows_break_nothing.ensures c.segments_are_read.ensures c.names_are_read.ensures
    c.numbers_are_read.ensures c.paths_are_read.ensures c.formed_are_readable.ensures c.formed_are_read.ensures c.keys_are_known.ensures c.paths_are_declared.ensures
