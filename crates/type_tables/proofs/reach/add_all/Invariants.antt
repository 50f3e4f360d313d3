use Rattle.std.proofs.Common.{take}
use Rattle.type_hierarchy.specs.Queues.{AddsAll}
use Rattle.type_tables.proofs.reach.add_all.Given as goal

-- so far each place up to the index of this one
abbrev pub invariant-loop-place : goal.invariant-loop-place
invariant-loop-place l = AddsAll l.initial.seen.keys l.seen.keys (take l.place-index l.places)
