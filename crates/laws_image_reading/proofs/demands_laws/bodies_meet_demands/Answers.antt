-- answers for src/laws.rt
use Rattle.laws_image_parts.proofs.MethodRuns.{methods_count}
use Rattle.laws_image_reading.proofs.demands.BodyDemands.{bodies_meet}
use Rattle.laws_image_reading.proofs.demands_laws.bodies_meet_demands.Goals as goal

pub returns : goal.returns
returns c = λ a classes r tables code entry id kind image f l names namings back.
    let rows = c.rows_are_read.ensures a classes r tables code image f (c.tables_are_read.ensures r tables id image l.metadata) in
    bodies_meet a classes image names namings (c.bodies_are_read.ensures a classes r tables code entry id kind image f l names back)
    (methods_count c.indexes_fit.ensures a classes r code image rows.methods)
