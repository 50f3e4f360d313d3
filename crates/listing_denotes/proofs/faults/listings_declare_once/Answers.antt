use Rattle.listing_denotes.proofs.FaultsOnce.{listings_declare_once}
use Rattle.listing_denotes.proofs.faults.listings_declare_once.Goals as goal

pub returns : goal.returns
returns c =
    listings_declare_once c.canon_is_derived.ensures c.searches_pass.ensures c.labels_differ.ensures c.contents_are_held.ensures c.data_are_there.ensures
    c.manifests_are_read.ensures c.keys_are_known.ensures c.keys_differ.ensures c.places_are_read.ensures c.places_differ.ensures c.members_are_once.ensures
    c.listings_are_read.ensures c.listings_enter_once.ensures
