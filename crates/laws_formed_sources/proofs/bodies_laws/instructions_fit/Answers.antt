use Rattle.source_model.specs.Bodies.{body}
use Rattle.source_model.specs.Classes.{assembly}
use Rattle.laws_formed_sources.proofs.bodies.Formed.{instructions_of_formed}
use Rattle.laws_formed_sources.proofs.bodies_laws.instructions_fit.Goals as goal

pub returns : goal.returns
returns c s r n i is = instructions_of_formed (assembly s) (body s n.around n.below) (c.methods_have_bodies.ensures s r n i is)
