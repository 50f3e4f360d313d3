use Rattle.type_order.proofs.FoundLemmas.{ready_more}
use Rattle.type_order.proofs.keys.st_of.Goals as goal

pub invariant_of-w : goal.invariant_of-w
invariant_of-w c = ready_more c.w.inside.pool c.stack_of_id.new.pool c.w.inside.tables c.w.inside.found c.w.invariant c.stack_of_id.ensures.extends
