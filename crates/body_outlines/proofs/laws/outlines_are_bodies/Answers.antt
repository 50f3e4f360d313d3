use Rattle.body_outlines.proofs.Existing.{body_exists}
use Rattle.body_outlines.proofs.laws.outlines_are_bodies.Goals as goal

pub returns : goal.returns
returns c = body_exists
