use Rattle.listing_denotes.proofs.FaultsOnce.{quiet_listings_denote}
use Rattle.listing_denotes.proofs.faults.quiet_listings_denote.Goals as goal

pub returns : goal.returns
returns c = quiet_listings_denote c.nodes_suffice.ensures c.listings_declare_once.ensures c.faultless_listings_denote.ensures
