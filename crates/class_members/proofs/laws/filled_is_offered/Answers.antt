use Rattle.class_members.proofs.Filling.{filled_is_offered}
use Rattle.class_members.proofs.laws.filled_is_offered.Goals as goal

pub returns : goal.returns
returns c = filled_is_offered
