use Rattle.image_model.proofs.OneOwners.{one_owners}
use Rattle.image_model.proofs.laws.tokens_name_one_type.Goals as goal

pub returns : goal.returns
returns c = one_owners
