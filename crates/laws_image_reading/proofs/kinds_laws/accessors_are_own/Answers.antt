-- answers for src/laws.rt
use Rattle.laws_image_reading.proofs.kinds.OwnAccessors.{accessors_meet}
use Rattle.laws_image_reading.proofs.kinds.Formed.{formed_classes}
use Rattle.laws_image_reading.proofs.kinds_laws.accessors_are_own.Goals as goal

pub returns : goal.returns
returns c = λ a classes r tables code entry id kind image f l formed light names namings back.
    let w = c.laid_out_is_written.ensures a classes r tables code entry id kind image f l in
    let rows = c.rows_are_read.ensures a classes r tables code image f w.reads in
    accessors_meet c.indexes_fit.ensures a classes r code image rows (c.runs_are_read.ensures a classes r code image rows)
    (c.owned_are_read.ensures.accessors a classes r image rows.properties) (formed_classes a classes f.classes_are formed light) names
