use Rattle.heaps.specs.Content.{HasBlob}
use Rattle.metadata_tables.specs.Stream.{cell}
use Rattle.image_model.specs.Streams.{tables_of, blobs_of}
use Rattle.row_parts.proofs.Zips.{ok_as}
use Rattle.row_parts.proofs.cells.blob_of.Goals as goal

pub returns : goal.returns
returns c =
    ok_as (HasBlob (blobs_of c.args.image.now) (cell (tables_of c.args.image.now) c.args.table c.args.row c.args.column)) c.from_slice.result c.blob_at-bytes.result.now c.from_slice.ensures c.blob_at-bytes.ensures
