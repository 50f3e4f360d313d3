use Rattle.heaps.specs.Content.{HasText}
use Rattle.metadata_tables.specs.Stream.{cell}
use Rattle.image_model.specs.Streams.{tables_of, strings_of}
use Rattle.row_parts.proofs.Entries.{text_read, text_back}
use Rattle.row_parts.proofs.Zips.{ok_as}
use Rattle.row_parts.proofs.cells.text_of.Goals as goal

pub unreachable-requires : goal.unreachable-requires
unreachable-requires c =
    let t = text_read c.args.image.now c.strings.result.now c.tables.result.now c.args.table c.args.row c.args.column c.cell.result c.strings.ensures c.tables.ensures.tables c.cell.ensures
    c.requires.meets c.requires.there c.requires.column c.requires.kind in
    c.in-None.ensures.none t.0 t.1

pub returns : goal.returns
returns c =
    ok_as (HasText (strings_of c.args.image.now) (cell (tables_of c.args.image.now) c.args.table c.args.row c.args.column)) c.new.result c.in-Some.text.now c.new.ensures
    (text_back c.args.image.now c.strings.result.now c.tables.result.now c.args.table c.args.row c.args.column c.cell.result c.in-Some.text.now c.strings.ensures c.tables.ensures.tables c.cell.ensures c.in-Some.ensures.found)
