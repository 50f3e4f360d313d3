-- answers for src/laws.rt
use Rattle.laws_image_reading.proofs.order.Sorted.{sorted}
use Rattle.laws_image_reading.proofs.order_laws.order_holds.Goals as goal

pub returns : goal.returns
returns c = λ a classes r tables code entry id kind image f l names.
    sorted a classes r code image (c.rows_are_read.ensures a classes r tables code image f (c.tables_are_read.ensures r tables id image l.metadata)) f.declared.methods
