use Rattle.check_bodies.proofs.bodies.naming_fault.Goals as goal

pub returns-then-are_quiet : goal.returns-then-are_quiet
returns-then-are_quiet c s n r m e at names plain = c.are_quiet.ensures s n r m at names plain c.if-are_quiet.true
