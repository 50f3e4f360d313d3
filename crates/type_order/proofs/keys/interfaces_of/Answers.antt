use Rattle.type_order.proofs.FoundLemmas.{ready_more}
use Rattle.type_order.proofs.keys.interfaces_of.Goals as goal

pub invariant_of-w : goal.invariant_of-w
invariant_of-w c = ready_more c.w.inside.pool c.interface_ids.new.pool c.w.inside.tables c.w.inside.found c.w.invariant c.interface_ids.ensures.extends

pub invariant_of-w-2 : goal.invariant_of-w-2
invariant_of-w-2 c = ready_more c.w.inside.pool c.interface_ids.new.pool c.w.inside.tables c.w.inside.found c.w.invariant c.interface_ids.ensures.extends
