use Rattle.listing_manifests.proofs.Headers.{headers_are_read}
use Rattle.listing_manifests.proofs.laws.headers_are_read.Goals as goal

pub returns : goal.returns
returns c = headers_are_read c.names_are_read.ensures c.numbers_are_read.ensures c.segments_are_read.ensures c.pieces_are_read.ensures
