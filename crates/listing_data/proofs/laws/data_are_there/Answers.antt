use Rattle.listing_data.proofs.There.{data_are_there}
use Rattle.listing_data.proofs.laws.data_are_there.Goals as goal

pub returns : goal.returns
returns c =
    data_are_there c.bytes_are_read.ensures c.labels_differ.ensures c.labels_are_read.ensures c.searches_pass.ensures c.pieces_are_read.ensures
    c.types_are_without.ensures c.declarations_are_read.ensures c.types_stand.ensures c.contents_are_held.ensures
