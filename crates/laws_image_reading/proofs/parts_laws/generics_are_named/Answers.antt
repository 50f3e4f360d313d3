-- answers for src/laws.rt
use Rattle.laws_image_reading.proofs.parts.Generics.{generics_named}
use Rattle.laws_image_reading.proofs.parts_laws.generics_are_named.Goals as goal

pub returns : goal.returns
returns c = λ a classes r tables code id kind image names h.
    generics_named c.parts_are_read.ensures a classes r tables code id kind image names h (c.rows_are_known.ensures a classes r tables code _ id kind image h.filled h.laid_out)
