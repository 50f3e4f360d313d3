use Rattle.listing_denotes.proofs.BodiesWhole.{bodies_break_nothing}
use Rattle.listing_denotes.proofs.bodies.bodies_break_nothing.Goals as goal

pub returns : goal.returns
returns c =
    bodies_break_nothing c.numbers_are_read.ensures c.labels_differ.ensures c.labels_are_read.ensures c.constants_are_read.ensures c.lines_lack.ensures
    c.searches_pass.ensures c.segments_are_read.ensures c.pieces_are_read.ensures c.walks_pass.ensures c.methods_are_read.ensures c.listings_are_read.ensures
