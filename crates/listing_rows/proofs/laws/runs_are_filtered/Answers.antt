use Rattle.listing_rows.proofs.Filtered.{runs_are_filtered}
use Rattle.listing_rows.proofs.laws.runs_are_filtered.Goals as goal

pub returns : goal.returns
returns c = runs_are_filtered c.runs_are_read.ensures
