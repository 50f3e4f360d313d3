use Rattle.std.proofs.Common.{◌∙◌}
use Rattle.image_lightness.proofs.light.by_facts.Goals as goal

pub by_signatures-requires-clause-image : goal.by_signatures-requires-clause-image
by_signatures-requires-clause-image g c = c.in_ok-signatures.ensures.image ∙ c.image.ensures

pub by_signatures-requires-clause-facts : goal.by_signatures-requires-clause-facts
by_signatures-requires-clause-facts g c = rw c.in_ok-signatures.ensures.owners c.requires.facts
