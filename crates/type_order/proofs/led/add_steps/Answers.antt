use Rattle.type_hierarchy.specs.Tables.{hierarchy_in}
use Rattle.type_order.proofs.FoundLemmas.{knows_more}
use Rattle.type_order.proofs.WalkLemmas.{adds_steps_grown}
use Rattle.type_order.proofs.led.add_steps.Goals as goal

pub returns-in_err-interfaces-clause-known : goal.returns-in_err-interfaces-clause-known
returns-in_err-interfaces-clause-known c = knows_more (hierarchy_in c.args.tables.now) c.args.pool.now c.interface_ids.new.pool c.args.found.now c.interface_ids.ensures.extends c.requires.known

pub found_parent-requires-clause-known : goal.found_parent-requires-clause-known
found_parent-requires-clause-known c = knows_more (hierarchy_in c.args.tables.now) c.args.pool.now c.interface_ids.new.pool c.args.found.now c.interface_ids.ensures.extends c.requires.known

pub returns-clause-ok : goal.returns-clause-ok
returns-clause-ok c =
    adds_steps_grown (hierarchy_in c.args.tables.now) c.args.pool.now c.interface_ids.new.pool c.found_parent.new.pool c.args.id c.args.queue.now c.add_optional.new.self c.add_all.new.self
    c.in_ok-parent.parent c.in_ok-interfaces.interfaces c.requires.id c.interface_ids.ensures.extends c.in_ok-interfaces.ensures.ok c.found_parent.ensures.extends c.in_ok-parent.ensures.ok
    c.in_ok-add_optional.ensures (rw c.as_slice.ensures at c.in_ok-add_all.ensures)
