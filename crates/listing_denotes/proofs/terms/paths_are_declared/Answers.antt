use Rattle.listing_denotes.proofs.TermsPaths.{paths_are_declared}
use Rattle.listing_denotes.proofs.terms.paths_are_declared.Goals as goal

pub returns : goal.returns
returns c = paths_are_declared c.sizes_are_known.ensures
