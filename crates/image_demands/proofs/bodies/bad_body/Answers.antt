use Rattle.image_demands.proofs.MethodBodies.{bodies_next}
use Rattle.image_demands.proofs.bodies.bad_body.Goals as goal

pub returns : goal.returns
returns c = bodies_next c.args.image.now c.tables-tables.ensures.meets c.requires.below c.first_unmet.result c.first_unmet.ensures.bad c.first_unmet.ensures.none
