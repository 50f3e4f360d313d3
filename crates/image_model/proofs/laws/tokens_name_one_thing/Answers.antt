use Rattle.image_model.proofs.OneNaming.{one_naming}
use Rattle.image_model.proofs.laws.tokens_name_one_thing.Goals as goal

pub returns : goal.returns
returns c = one_naming
