use Rattle.std.proofs.Common.{drop}
use Rattle.image_rows.specs.MapRows.{event_count}
use Rattle.image_rows.proofs.MapRowLemmas.{Mapped}
use Rattle.image_rows.proofs.map_rows.push_event_map.Given as goal

abbrev pub invariant-loop-class : goal.invariant-loop-class
invariant-loop-class l = Mapped 0x12 event_count l.events l.row l.first l.initial.rows l.rows l.classes (drop l.class-index l.classes)
