use Rattle.source_model.proofs.Forests.{one_forest}
use Rattle.source_model.proofs.laws.derivations_are_forests.Goals as goal

pub returns : goal.returns
returns c = one_forest
