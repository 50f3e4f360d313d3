-- answers for src/laws.rt
use Rattle.std.specs.Prelude.{◌≢◌, []}
use Rattle.laws_image_reading.proofs.cells.FormedNames.{names_formed, plain_formed}
use Rattle.laws_image_reading.proofs.cells.ImageCells.{rows_have_entries}
use Rattle.laws_image_reading.proofs.cells.ReferenceRows.{all_cells}
use Rattle.laws_image_reading.proofs.cells_laws.entries_hold.Goals as goal

pub returns : goal.returns
returns c = λ a classes r tables code entry id kind image f l formed named names.
    let reads = c.tables_are_read.ensures r tables id image l.metadata in
    let heaps = c.heaps_are_read.ensures r tables id image l.metadata in
    let cells = all_cells (λ text. text ≢ []) a classes r tables code f (names_formed a classes f.classes_are formed r named) (plain_formed a classes f.classes_are formed) in
    rows_have_entries r tables image reads heaps id l.metadata.identifier cells
