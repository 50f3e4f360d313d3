-- answers for src/laws.rt
use Rattle.laws_image_reading.proofs.parts.Whole.{manifest_named}
use Rattle.laws_image_reading.proofs.parts_laws.manifests_are_named.Goals as goal

pub returns : goal.returns
returns c = λ a classes r tables code id kind image names h.
    manifest_named a classes r tables code id kind image names h (c.rows_are_known.ensures a classes r tables code _ id kind image h.filled h.laid_out)
    c.manifest_is_read.ensures (c.attributes_are_named.ensures a classes r tables code id kind image names h)
