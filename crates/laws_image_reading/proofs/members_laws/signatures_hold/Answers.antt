-- answers for src/laws.rt
use Rattle.laws_image_reading.proofs.members.SignatureDemands.{signatures_held}
use Rattle.laws_image_reading.proofs.members_laws.signatures_hold.Goals as goal

pub returns : goal.returns
returns c = λ a classes r tables code entry id kind image f l formed light readable bounded names namings back.
    let w = c.laid_out_is_written.ensures a classes r tables code entry id kind image f l in
    let rows = c.rows_are_read.ensures a classes r tables code image w.filled w.reads in
    signatures_held (record {
      types = λ tokens owners gives x bytes h. c.shortest_is_read.ensures.type_of owners x bytes (c.written_is_read.ensures.type_of tokens owners gives x bytes h);
      fields = λ tokens owners gives x bytes h. c.shortest_is_read.ensures.field owners x bytes (c.written_is_read.ensures.field tokens owners gives x bytes h);
      methods = λ tokens owners gives x bytes h. c.shortest_is_read.ensures.method owners x bytes (c.written_is_read.ensures.method tokens owners gives x bytes h);
      properties = λ tokens owners gives x bytes h. c.shortest_is_read.ensures.property owners x bytes (c.written_is_read.ensures.property tokens owners gives x bytes h);
      locals = λ tokens owners gives x bytes h. c.shortest_is_read.ensures.locals owners x bytes (c.written_is_read.ensures.locals tokens owners gives x bytes h);
      arguments = λ tokens owners gives x bytes h. c.shortest_is_read.ensures.instantiation owners x bytes (c.written_is_read.ensures.instantiation tokens owners gives x bytes h);
    }) c.indexes_fit.ensures a classes r tables code image w rows (c.runs_are_read.ensures a classes r code image rows) (c.members_are_owned.ensures a classes r tables code image w)
    formed light readable bounded names namings back
