use Rattle.listing_bodies.proofs.Whole.{lines_lack}
use Rattle.listing_bodies.proofs.laws.lines_lack.Goals as goal

pub returns : goal.returns
returns c = lines_lack c.pieces_are_read.ensures c.searches_pass.ensures
