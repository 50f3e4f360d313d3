-- answers for src/laws.rt
use Rattle.laws_image_reading.proofs.kinds.Attributes.{attributes_meet}
use Rattle.laws_image_reading.proofs.kinds.Formed.{formed_attributes}
use Rattle.laws_image_reading.proofs.kinds_laws.attributes_are_known.Goals as goal

pub returns : goal.returns
returns c = λ a classes r tables code entry id kind image f l formed light names namings back.
    let w = c.laid_out_is_written.ensures a classes r tables code entry id kind image f l in
    attributes_meet a classes r image f.known (c.rows_are_read.ensures a classes r tables code image f w.reads).owned
    (formed_attributes a classes f.classes_are formed light) names back
