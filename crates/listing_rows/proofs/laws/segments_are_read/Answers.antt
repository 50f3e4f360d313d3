use Rattle.listing_rows.proofs.Segments.{segments_are_read}
use Rattle.listing_rows.proofs.laws.segments_are_read.Goals as goal

pub returns : goal.returns
returns c = segments_are_read c.commas_are_read.ensures
