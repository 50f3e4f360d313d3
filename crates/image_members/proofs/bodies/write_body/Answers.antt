use Rattle.image_members.proofs.CodeLemmas.{can_be_written, no_fault}
use Rattle.image_members.proofs.bodies.write_body.Goals as goal

pub write-requires : goal.write-requires
write-requires c = can_be_written c.args.refs.now c.args.body.now c.requires.known c.requires.tokens c.requires.form

pub unreachable-requires : goal.unreachable-requires
unreachable-requires c = no_fault c.args.body.now.code c.in-Err.fault c.in-Err.ensures.fault c.in_default.not-NoMemory c.requires.reaches
