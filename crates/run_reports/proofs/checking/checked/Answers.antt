use Rattle.std.proofs.Common.{◌∷◌, refl}
use Rattle.run_reports.proofs.checking.checked.Goals as goal

pub bodies_given-requires : goal.bodies_given-requires
bodies_given-requires c = (refl, (c.requires.image, (c.requires.references, (c.requires.few, c.in-Ok.ensures.world))))

pub ring_given-requires : goal.ring_given-requires
ring_given-requires c = rw c.in-Err-Cyclic.field-0-is at c.in-Err-Cyclic.ensures.fault

pub returns-in-Ok-clause-gives : goal.returns-in-Ok-clause-gives
returns-in-Ok-clause-gives c = c.bodies_given.ensures.gives (c.args.file.now ∷ c.args.names.now)
