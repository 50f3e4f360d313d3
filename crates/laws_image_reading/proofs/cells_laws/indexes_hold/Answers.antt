-- answers for src/laws.rt
use Rattle.std.specs.Prelude.{⊤}
use Rattle.laws_image_reading.proofs.cells.FormedNames.{any_names, plain_formed}
use Rattle.laws_image_reading.proofs.cells.HeaderLemmas.{has_entry}
use Rattle.laws_image_reading.proofs.cells.ImageCells.{rows_have_indexes}
use Rattle.laws_image_reading.proofs.cells.ReferenceRows.{all_cells}
use Rattle.laws_image_reading.proofs.cells_laws.indexes_hold.Goals as goal

pub returns : goal.returns
returns c = λ a classes r tables code id kind image f l formed accessors externs names.
    let reads = c.tables_are_read.ensures r tables id image l.metadata in
    let cells = all_cells (λ text. ⊤) a classes r tables code f (any_names a classes r f.known) (plain_formed a classes f.classes_are formed) in
    let there = c.indexes_are_there.ensures a classes r tables code accessors externs f in
    (rows_have_indexes r tables image reads (λ text. ⊤) c.indexes_fit.ensures there cells, has_entry a classes r tables code id kind image f l (reads.counts 0x06))
