use Rattle.listing_denotes.proofs.WholeSources.{listings_are_sources}
use Rattle.listing_denotes.proofs.whole.listings_are_sources.Goals as goal

pub returns : goal.returns
returns c = listings_are_sources c.canon_is_derived.ensures c.grown_is_derived.ensures c.forests_agree.ensures c.leaves_are_read.ensures
