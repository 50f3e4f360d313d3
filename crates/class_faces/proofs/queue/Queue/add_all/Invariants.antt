use Rattle.std.proofs.Common.{take}
use Rattle.type_hierarchy.specs.Queues.{AddsAll}
use Rattle.class_faces.proofs.queue.Queue.add_all.Given as goal

-- so far each id up to the place of this one
abbrev pub invariant-loop-key : goal.invariant-loop-key
invariant-loop-key l = AddsAll l.initial.self l.self (take l.key-index l.keys)
