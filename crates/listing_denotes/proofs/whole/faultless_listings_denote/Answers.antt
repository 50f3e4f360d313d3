use Rattle.listing_denotes.proofs.WholeSources.{faultless_listings_denote}
use Rattle.listing_denotes.proofs.whole.faultless_listings_denote.Goals as goal

pub returns : goal.returns
returns c = faultless_listings_denote c.listings_are_sources.ensures c.listings_are_read.ensures
