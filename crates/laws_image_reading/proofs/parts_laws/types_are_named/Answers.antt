-- answers for src/laws.rt
use Rattle.laws_image_reading.proofs.parts.Types.{types_are}
use Rattle.laws_image_reading.proofs.parts_laws.types_are_named.Goals as goal

pub returns : goal.returns
returns c = λ a classes r tables code id kind image names h.
    types_are c.parts_are_read.ensures a classes r tables code id kind image names h
    (c.rows_are_known.ensures a classes r tables code _ id kind image h.filled h.laid_out) (record {
      attributes = c.attributes_are_named.ensures a classes r tables code id kind image names h;
      generics = c.generics_are_named.ensures a classes r tables code id kind image names h;
      fields = c.fields_are_named.ensures a classes r tables code id kind image names h;
      methods = c.methods_are_named.ensures a classes r tables code id kind image names h;
      properties = c.properties_are_named.ensures a classes r tables code id kind image names h;
      events = c.events_are_named.ensures a classes r tables code id kind image names h;
    })
