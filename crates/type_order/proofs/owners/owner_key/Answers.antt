use Rattle.type_order.proofs.FoundLemmas.{ready_more}
use Rattle.type_order.proofs.owners.owner_key.Goals as goal

pub invariant_of-w : goal.invariant_of-w
invariant_of-w c = ready_more c.w.inside.pool c.owner_id.new.pool c.w.inside.tables c.w.inside.found c.w.invariant c.owner_id.ensures.extends

pub invariant_of-w-2 : goal.invariant_of-w-2
invariant_of-w-2 c = ready_more c.w.inside.pool c.owner_id.new.pool c.w.inside.tables c.w.inside.found c.w.invariant c.owner_id.ensures.extends
