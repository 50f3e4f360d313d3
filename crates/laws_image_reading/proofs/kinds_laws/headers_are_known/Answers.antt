-- answers for src/laws.rt
use Rattle.laws_image_parts.proofs.MethodRuns.{methods_count}
use Rattle.laws_image_reading.proofs.kinds.Formed.{formed_methods}
use Rattle.laws_image_reading.proofs.kinds.Headers.{headers_meet}
use Rattle.laws_image_reading.proofs.kinds_laws.headers_are_known.Goals as goal

pub returns : goal.returns
returns c = λ a classes r tables code entry id kind image f l formed light names namings back.
    let w = c.laid_out_is_written.ensures a classes r tables code entry id kind image f l in
    let rows = c.rows_are_read.ensures a classes r tables code image f w.reads in
    headers_meet c.parts_are_read.ensures a classes r code image w.heaps (c.runs_are_read.ensures a classes r code image rows)
    (methods_count c.indexes_fit.ensures a classes r code image rows.methods) (formed_methods a classes f.classes_are formed light) names
    (c.bodies_meet_demands.ensures a classes r tables code entry id kind image f l names namings back)
