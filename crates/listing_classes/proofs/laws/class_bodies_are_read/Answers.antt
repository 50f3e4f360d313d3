use Rattle.listing_classes.proofs.Bodies.{class_bodies_are_read}
use Rattle.listing_classes.proofs.laws.class_bodies_are_read.Goals as goal

pub returns : goal.returns
returns c = class_bodies_are_read c.searches_pass.ensures c.rows_are_read.ensures c.segments_are_read.ensures c.pieces_are_read.ensures
