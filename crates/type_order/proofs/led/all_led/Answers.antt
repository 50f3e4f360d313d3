use Rattle.std.proofs.Common.{length, subst, List, ℕ}
use Rattle.type_hierarchy.specs.Queues.{AddsAll}
use Rattle.type_hierarchy.specs.Tables.{hierarchy_in}
use Rattle.type_hierarchy.proofs.GrowLemmas.{extends_trans}
use Rattle.type_order.proofs.FoundLemmas.{knows_more}
use Rattle.type_order.proofs.LedLemmas.{are_led, queue_within}
use Rattle.type_order.proofs.led.all_led.Goals as goal

pub returns-in_err-interfaces-clause-known : goal.returns-in_err-interfaces-clause-known
returns-in_err-interfaces-clause-known c = knows_more (hierarchy_in c.args.tables.now) c.args.pool.now c.interface_ids.new.pool c.args.found.now c.interface_ids.ensures.extends c.requires.known

pub returns-in_err-add_all-clause-known : goal.returns-in_err-add_all-clause-known
returns-in_err-add_all-clause-known c = knows_more (hierarchy_in c.args.tables.now) c.args.pool.now c.interface_ids.new.pool c.args.found.now c.interface_ids.ensures.extends c.requires.known

pub add_above-requires-clause-queue : goal.add_above-requires-clause-queue
add_above-requires-clause-queue c =
    queue_within (length c.interface_ids.new.pool) c.in_ok-interfaces.interfaces c.new-queue.result c.add_all.new.self c.new-queue.ensures c.in_ok-interfaces.ensures.ok.within (rw c.as_slice.ensures at c.in_ok-add_all.ensures)

pub add_above-requires-clause-known : goal.add_above-requires-clause-known
add_above-requires-clause-known c = knows_more (hierarchy_in c.args.tables.now) c.args.pool.now c.interface_ids.new.pool c.args.found.now c.interface_ids.ensures.extends c.requires.known

pub returns-in_err-add_above-clause-extends : goal.returns-in_err-add_above-clause-extends
returns-in_err-add_above-clause-extends c = extends_trans c.args.pool.now c.interface_ids.new.pool c.add_above.new.pool c.interface_ids.ensures.extends c.add_above.ensures.extends

pub returns-clause-ok : goal.returns-clause-ok
returns-clause-ok c =
    let adds = subst (λ (l : List ℕ). AddsAll l c.add_all.new.self c.in_ok-interfaces.interfaces) c.new-queue.ensures (rw c.as_slice.ensures at c.in_ok-add_all.ensures) in
    are_led (hierarchy_in c.args.tables.now) c.args.pool.now c.interface_ids.new.pool c.add_above.new.pool c.args.id c.in_ok-interfaces.interfaces c.add_all.new.self c.add_above.new.queue c.requires.id
    c.interface_ids.ensures.extends c.add_above.ensures.extends c.in_ok-interfaces.ensures.ok adds c.in_ok-add_above.ensures.ok

pub returns-clause-extends : goal.returns-clause-extends
returns-clause-extends c = extends_trans c.args.pool.now c.interface_ids.new.pool c.add_above.new.pool c.interface_ids.ensures.extends c.add_above.ensures.extends
