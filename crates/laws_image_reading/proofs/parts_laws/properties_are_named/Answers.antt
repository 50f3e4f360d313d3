-- answers for src/laws.rt
use Rattle.laws_image_reading.proofs.parts.Properties.{properties_are}
use Rattle.laws_image_reading.proofs.parts.Signatures.{rereads_members}
use Rattle.laws_image_reading.proofs.parts_laws.properties_are_named.Goals as goal

pub returns : goal.returns
returns c = λ a classes r tables code id kind image names h.
    properties_are c.parts_are_read.ensures a classes r tables code id kind image names h
    (c.rows_are_known.ensures a classes r tables code _ id kind image h.filled h.laid_out) (c.attributes_are_named.ensures a classes r tables code id kind image names h)
    c.constants_are_read.ensures
    (rereads_members c.written_is_read.ensures.field c.shortest_is_read.ensures.field c.written_is_read.ensures.method c.shortest_is_read.ensures.method c.written_is_read.ensures.property c.shortest_is_read.ensures.property)
