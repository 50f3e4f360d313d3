-- answers for src/laws.rt
use Rattle.laws_image_reading.proofs.kinds.Bases.{bases_meet}
use Rattle.laws_image_reading.proofs.kinds.Formed.{formed_classes}
use Rattle.laws_image_reading.proofs.kinds_laws.bases_are_right.Goals as goal

pub returns : goal.returns
returns c = λ a classes r tables code entry id kind image f l formed light names namings back.
    let w = c.laid_out_is_written.ensures a classes r tables code entry id kind image f l in
    let rows = c.rows_are_read.ensures a classes r tables code image f w.reads in
    bases_meet c.parts_are_read.ensures a classes r code image f.known w.heaps rows.types.types (c.runs_are_read.ensures a classes r code image rows)
    (c.enclosers_are_read.ensures a classes r image rows.types) (formed_classes a classes f.classes_are formed light) names
