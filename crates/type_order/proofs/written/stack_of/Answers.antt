use Rattle.type_order.proofs.FoundLemmas.{ready_more}
use Rattle.type_order.proofs.written.stack_of.Goals as goal

pub invariant_of-w : goal.invariant_of-w
invariant_of-w c = ready_more c.w.inside.pool c.written_stack.new.pool c.w.inside.tables c.w.inside.found c.w.invariant c.written_stack.ensures.extends
