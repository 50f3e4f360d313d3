use Rattle.source_nodes.proofs.DerivedLemmas.{derivations_have_bodies}
use Rattle.source_nodes.proofs.derived.derivations_have_bodies.Goals as goal

pub returns : goal.returns
returns c = derivations_have_bodies c.forests_open.ensures
