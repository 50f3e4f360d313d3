use Rattle.assignability.proofs.LeadLemmas.{steps_within}
use Rattle.assignability.proofs.building.first_of.Goals as goal

pub first_cyclic-requires : goal.first_cyclic-requires
first_cyclic-requires c = steps_within _ _ _ c.in_ok-steps.ensures
