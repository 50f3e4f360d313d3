use Rattle.laws_formed_sources.proofs.bodies.Formed.{all_nodes}
use Rattle.laws_formed_sources.proofs.bodies_laws.nodes_are_good.Goals as goal

pub returns : goal.returns
returns c s r n i = all_nodes c.derivations_have_bodies.ensures s r n i
