-- answers for src/laws.rt
use Rattle.laws_image_reading.proofs.cells.HeaderLemmas.{tables_open}
use Rattle.laws_image_reading.proofs.cells_laws.tables_open.Goals as goal

pub returns : goal.returns
returns c = λ a classes r tables code id kind image f l formed. tables_open a classes r tables code id kind image f l formed (c.tables_are_read.ensures r tables id image l.metadata)
