use Rattle.row_parts.proofs.Entries.{blob_read, blob_back}
use Rattle.row_parts.proofs.cells.blob_at.Goals as goal

pub unreachable-requires : goal.unreachable-requires
unreachable-requires c =
    let t = blob_read c.args.image.now c.blobs.result.now c.tables.result.now c.args.table c.args.row c.args.column c.cell.result c.blobs.ensures c.tables.ensures.tables c.cell.ensures
    c.requires.meets c.requires.there c.requires.column c.requires.kind in
    c.in-None.ensures.none t.0 t.1

pub returns : goal.returns
returns c =
    blob_back c.args.image.now c.blobs.result.now c.tables.result.now c.args.table c.args.row c.args.column c.cell.result c.in-Some.bytes.now c.blobs.ensures c.tables.ensures.tables c.cell.ensures c.in-Some.ensures.found
