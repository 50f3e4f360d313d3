use Rattle.source_model.proofs.Firsts.{first_is_least}
use Rattle.source_model.proofs.laws.the_first_is_least.Goals as goal

pub returns : goal.returns
returns c = first_is_least
