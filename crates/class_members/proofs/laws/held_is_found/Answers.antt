use Rattle.class_members.proofs.Finding.{held_is_found}
use Rattle.class_members.proofs.laws.held_is_found.Goals as goal

pub returns : goal.returns
returns c = held_is_found
