use Rattle.class_faces.proofs.OwnClasses.{parameters_more}
use Rattle.class_faces.proofs.declaring.own_parameters.Goals as goal

pub loop-k-preserved : goal.loop-k-preserved
loop-k-preserved c = parameters_more c.loop-k.k c.loop-k.parameters c.push.new.self c.loop-k.invariant c.in_ok-push.ensures.ok
