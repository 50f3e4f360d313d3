use Rattle.listing_rows.proofs.Pieces.{pieces_are_read}
use Rattle.listing_rows.proofs.laws.pieces_are_read.Goals as goal

pub returns : goal.returns
returns c = pieces_are_read c.searches_pass.ensures
