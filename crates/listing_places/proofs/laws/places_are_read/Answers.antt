use Rattle.listing_places.proofs.Places.{places_are_read}
use Rattle.listing_places.proofs.laws.places_are_read.Goals as goal

pub returns : goal.returns
returns c =
    places_are_read c.canon_is_derived.ensures c.searches_pass.ensures c.segments_are_read.ensures c.pieces_are_read.ensures c.class_heads_are_read.ensures
    c.class_bodies_are_read.ensures c.class_members_are_read.ensures c.types_are_formed.ensures c.types_stand.ensures c.declarations_are_read.ensures
