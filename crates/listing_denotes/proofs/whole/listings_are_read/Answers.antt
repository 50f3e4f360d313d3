use Rattle.listing_denotes.proofs.WholeWhole.{listings_are_read}
use Rattle.listing_denotes.proofs.whole.listings_are_read.Goals as goal

pub returns : goal.returns
returns c =
    listings_are_read c.contents_are_held.ensures c.data_are_there.ensures c.types_stand.ensures c.declarations_are_read.ensures c.externs_are_named.ensures
    c.globals_are_read.ensures c.manifests_are_read.ensures c.keys_are_known.ensures c.nested_are_read.ensures c.sizes_are_known.ensures
