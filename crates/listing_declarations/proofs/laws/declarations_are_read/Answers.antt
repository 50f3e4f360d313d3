use Rattle.listing_declarations.proofs.Rows.{declarations_are_read}
use Rattle.listing_declarations.proofs.laws.declarations_are_read.Goals as goal

pub returns : goal.returns
returns c =
    declarations_are_read c.canon_is_derived.ensures c.searches_pass.ensures c.segments_are_read.ensures c.pieces_are_read.ensures c.type_rows_are_read.ensures
