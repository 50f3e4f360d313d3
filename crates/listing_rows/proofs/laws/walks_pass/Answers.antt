use Rattle.listing_rows.proofs.Walks.{walks_pass}
use Rattle.listing_rows.proofs.laws.walks_pass.Goals as goal

pub returns : goal.returns
returns c = walks_pass c.searches_pass.ensures
