-- answers for src/laws.rt
use Rattle.laws_image_reading.proofs.order.Scopes.{has_scopes}
use Rattle.laws_image_reading.proofs.order_laws.scopes_hold.Goals as goal

pub returns : goal.returns
returns c = λ a classes r tables code entry id kind image f l formed short names.
    let w = c.laid_out_is_written.ensures a classes r tables code entry id kind image f l in
    has_scopes a classes r code image (c.rows_are_read.ensures a classes r tables code image f w.reads) f.classes_are formed (c.paths_are_read.ensures a classes r tables code image w) w.heaps short
