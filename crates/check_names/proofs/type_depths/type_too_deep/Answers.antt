use Rattle.source_model.specs.Nodes.{nodes, nothing_around}
use Rattle.check_names.proofs.type_depths.type_too_deep.Goals as goal

pub returns : goal.returns
unfolding nodes
returns c s r = (c.depths_in-all.ensures s nothing_around s.tree r.nodes (c.derivations_have_bodies.ensures s r.derived).1).broken
