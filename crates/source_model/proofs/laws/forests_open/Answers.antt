use Rattle.source_model.proofs.Forests.{forest_opens}
use Rattle.source_model.proofs.laws.forests_open.Goals as goal

pub returns : goal.returns
returns c = forest_opens
