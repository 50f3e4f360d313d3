use Rattle.listing_bodies.proofs.Whole.{bodies_are_read}
use Rattle.listing_bodies.proofs.laws.bodies_are_read.Goals as goal

pub returns : goal.returns
returns c =
    bodies_are_read c.numbers_are_read.ensures c.labels_differ.ensures c.labels_are_read.ensures c.strings_are_read.ensures c.constants_are_read.ensures
    c.formed_are_read.ensures c.searches_pass.ensures c.walks_pass.ensures c.segments_are_read.ensures c.pieces_are_read.ensures
