use Rattle.source_model.proofs.Joined.{forests_join}
use Rattle.source_model.proofs.laws.forests_join.Goals as goal

pub returns : goal.returns
returns c = forests_join
