use Rattle.std.proofs.Common.{refl}
use Rattle.source_model.specs.Forest.{none}
use Rattle.check_bodies.proofs.clause_rules.ForwardClausesMethodRule.first.Goals as goal

pub returns : goal.returns
returns c s n r m e =
    c.first_backwards.ensures s n none n.below r (c.in_ok-places.ensures s n r m e) tt m.bodies refl e
