use Rattle.listing_places.proofs.Sizes.{sizes_are_known}
use Rattle.listing_places.proofs.laws.sizes_are_known.Goals as goal

pub returns : goal.returns
returns c = sizes_are_known c.paths_lead.ensures c.places_are_read.ensures
