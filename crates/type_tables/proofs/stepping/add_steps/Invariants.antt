use Rattle.std.proofs.Common.{take}
use Rattle.type_tables.specs.Landings.{AddsPlaces}
use Rattle.type_hierarchy.specs.Tables.{hierarchy_in}
use Rattle.type_tables.proofs.stepping.add_steps.Given as goal

-- so far where each type before this one leads
abbrev pub invariant-loop-to : goal.invariant-loop-to
invariant-loop-to l = AddsPlaces (hierarchy_in l.tables) l.tables.names (take l.to-index l.types) l.initial.nexts l.nexts
