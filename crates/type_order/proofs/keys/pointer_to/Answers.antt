use Rattle.type_order.proofs.FoundLemmas.{ready_more}
use Rattle.type_order.proofs.keys.pointer_to.Goals as goal

pub invariant_of-w : goal.invariant_of-w
invariant_of-w c = ready_more c.w.inside.pool c.pointer_to_id.new.pool c.w.inside.tables c.w.inside.found c.w.invariant c.pointer_to_id.ensures.extends
