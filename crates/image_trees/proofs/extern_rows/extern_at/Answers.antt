use Rattle.std.proofs.Common.{◌∙◌, ap}
use Rattle.metadata_tables.specs.Stream.{cell}
use Rattle.image_model.specs.Columns.{extern_name, extern_key, extern_culture, extern_hash}
use Rattle.image_model.specs.Reading.{TextIs, BlobIs}
use Rattle.row_parts.proofs.Zips.{ok_has}
use Rattle.image_trees.proofs.extern_rows.extern_at.Goals as goal

pub returns : goal.returns
returns c =
    let image = c.args.image.now in
    let row = c.args.row in
    let it = c.in_ok-name in
    let e = c.in_ok-name.ensures in
    record {
      name = ok_has (TextIs image (extern_name image row)) c.text_of.result it.name e.0 c.text_of.ensures;
      version = c.version-version.ensures;
      flags = c.cell-flags.ensures ∙ ap (λ stream. cell stream 0x23 row 4) c.tables.ensures.tables;
      key = ok_has (BlobIs image (extern_key image row)) c.blob_of.result it.key e.1.0 c.blob_of.ensures;
      culture = ok_has (TextIs image (extern_culture image row)) c.text_of-2.result it.culture e.1.1.0 c.text_of-2.ensures;
      hash = ok_has (BlobIs image (extern_hash image row)) c.blob_of-2.result it.hash e.1.1.1 c.blob_of-2.ensures;
    }
