-- answers for src/laws.rt
use Rattle.laws_image_reading.proofs.parts.Properties.{events_are}
use Rattle.laws_image_reading.proofs.parts_laws.events_are_named.Goals as goal

pub returns : goal.returns
returns c = λ a classes r tables code id kind image names h.
    events_are c.parts_are_read.ensures a classes r tables code id kind image names h
    (c.rows_are_known.ensures a classes r tables code _ id kind image h.filled h.laid_out) (c.attributes_are_named.ensures a classes r tables code id kind image names h)
