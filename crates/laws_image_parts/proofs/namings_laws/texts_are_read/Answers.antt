-- answers for src/laws.rt
use Rattle.laws_image_parts.proofs.namings.TextLemmas.{texts_read}
use Rattle.laws_image_parts.proofs.namings_laws.texts_are_read.Goals as goal

pub returns : goal.returns
returns c = λ a classes r tables code image w units.
    texts_read image c.one_content_at_an_index.ensures.blob c.one_content_at_an_index.ensures.units r w.heaps w.filled.known units
