use Rattle.class_faces.proofs.Walking.{adds_steps_in}
use Rattle.class_faces.proofs.closure.add_steps.Goals as goal

pub returns-clause-ok : goal.returns-clause-ok
returns-clause-ok c =
    adds_steps_in c.args.w.now c.interfaces_of.new.w c.parent_key.new.w c.args.at.now c.args.queue.now c.add_optional.new.self c.add_all.new.self c.in_ok-parent.parent
    c.in_ok-interfaces.interfaces c.as_slice.result.now c.add_all.result c.requires c.in_ok-interfaces.ensures.stays c.in_ok-interfaces.ensures.ok
    c.in_ok-parent.ensures.stays c.in_ok-parent.ensures.ok c.in_ok-add_optional.ensures c.as_slice.ensures c.add_all.ensures
