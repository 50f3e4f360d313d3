use Rattle.lower_bodies.proofs.VariableParts.{locals_named}
use Rattle.lower_bodies.proofs.variables.Variables.read.Goals as goal

pub returns : goal.returns
returns c s n r m e are =
    let f = n.below in
    record {
      arguments-are = c.in_ok-arguments.ensures s n r m e;
      locals-are = c.in_ok-locals.ensures s _ r (locals_named s f m.bodies) are;
    }
