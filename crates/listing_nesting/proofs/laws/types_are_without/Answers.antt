use Rattle.listing_nesting.proofs.Absent.{types_are_without}
use Rattle.listing_nesting.proofs.laws.types_are_without.Goals as goal

pub returns : goal.returns
returns c =
    types_are_without c.types_are_formed.ensures c.searches_pass.ensures c.segments_are_read.ensures c.pieces_are_read.ensures c.class_bodies_are_read.ensures
