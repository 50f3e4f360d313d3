use Rattle.type_order.proofs.OwnLemmas.{parameters_more}
use Rattle.type_order.proofs.own.own_parameters.Goals as goal

pub loop-k-preserved : goal.loop-k-preserved
loop-k-preserved c = parameters_more c.loop-k.k c.loop-k.parameters c.push.new.self c.loop-k.invariant c.in_ok-push.ensures.ok
