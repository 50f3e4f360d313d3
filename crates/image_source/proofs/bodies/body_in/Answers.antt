use Rattle.image_source.proofs.Keeping.{no_fault}
use Rattle.image_source.proofs.bodies.body_in.Goals as goal

pub returns-in-Ok : goal.returns-in-Ok
returns-in-Ok c = (c.in-Ok.read.1, c.in-Ok.ensures.body)

pub unreachable-requires : goal.unreachable-requires
unreachable-requires c = no_fault c.in-Err.fault c.requires.0 c.requires.1.0 c.in_default.not-NoMemory (c.in-Err.ensures.only_body c.requires.0 c.requires.1.0 c.requires.1.1)
