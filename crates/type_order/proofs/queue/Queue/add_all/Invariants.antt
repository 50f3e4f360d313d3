use Rattle.std.proofs.Common.{take}
use Rattle.type_hierarchy.specs.Queues.{AddsAll}
use Rattle.type_order.proofs.queue.Queue.add_all.Given as goal

-- so far each id up to the place of this one
abbrev pub invariant-loop-id : goal.invariant-loop-id
invariant-loop-id l = AddsAll l.initial.self l.self (take l.id-index l.ids)
