use Rattle.listing_denotes.proofs.EntriesTypes.{listings_enter_once}
use Rattle.listing_denotes.proofs.entries.listings_enter_once.Goals as goal

pub returns : goal.returns
returns c =
    listings_enter_once c.searches_pass.ensures c.pieces_are_read.ensures c.lines_lack.ensures c.class_bodies_are_read.ensures c.types_are_formed.ensures
    c.types_stand.ensures c.declarations_are_read.ensures
