use Rattle.method_states.proofs.Looking.{looks_tail}
use Rattle.method_states.proofs.body_look.look_behind.Goals as goal

pub returns-in-Err : goal.returns-in-Err
returns-in-Err c =
    looks_tail c.args.image.now c.args.bytes.now c.args.marks.now c.in-Err.fault c.state_by.result c.requires c.in-Err.ensures.fault c.state_by.ensures
