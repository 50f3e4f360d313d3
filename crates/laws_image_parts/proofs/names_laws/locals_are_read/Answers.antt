-- answers for src/laws.rt
use Rattle.laws_image_parts.proofs.names.LocalsLemmas.{locals_read}
use Rattle.laws_image_parts.proofs.names_laws.locals_are_read.Goals as goal

pub returns : goal.returns
returns c = λ a classes r tables code image w readable o.
    locals_read
    (λ tokens owners gives x bytes h. c.shortest_is_read.ensures.locals owners x bytes (c.written_is_read.ensures.locals tokens owners gives x bytes h))
    (λ owners bytes x y h fits k other. c.bytes_spell_one_signature.ensures.locals owners bytes x y (h, fits.0, fits.1) (k, other.0, other.1))
    r image c.one_content_at_an_index.ensures.blob w.heaps o.owners o.back w.filled.known
    (c.rows_are_read.ensures a classes r tables code image w.filled w.reads).references.locals readable
