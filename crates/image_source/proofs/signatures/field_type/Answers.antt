use Rattle.std.proofs.Common.{List, ℕ, subst}
use Rattle.sig_codec.specs.Signature.{IsField}
use Rattle.image_model.specs.Columns.{field_signature}
use Rattle.image_model.specs.Streams.{blobs_of}
use Rattle.image_model.specs.Terms.{FieldHas}
use Rattle.row_parts.proofs.Zips.{ok_as}
use Rattle.image_source.specs.Names.{names_of}
use Rattle.image_source.proofs.signatures.field_type.Goals as goal

pub sure-requires : goal.sure-requires
sure-requires c =
    let image = c.args.source.now.image.now in
    let h = c.requires.ready.named.fields c.args.row c.requires.there in
    let same = c.one_content_at_an_index.ensures.blob (blobs_of image) (field_signature image c.args.row) h.1.0 c.blob_at-bytes.result.now h.1.1 c.blob_at-bytes.ensures in
    (h.0, c.decode_field.ensures.only h.0 (subst (λ (b : List ℕ). IsField (names_of c.args.source.now.kept.now).owners b h.0) same h.1.2))

pub returns : goal.returns
returns c =
    let image = c.args.source.now.image.now in
    let h = c.requires.ready.named.fields c.args.row c.requires.there in
    let same = c.one_content_at_an_index.ensures.blob (blobs_of image) (field_signature image c.args.row) h.1.0 c.blob_at-bytes.result.now h.1.1 c.blob_at-bytes.ensures in
    ok_as (FieldHas image (names_of c.args.source.now.kept.now) c.args.row) c.sure.result h.0
    (c.sure.ensures h.0 (c.decode_field.ensures.only h.0 (subst (λ (b : List ℕ). IsField (names_of c.args.source.now.kept.now).owners b h.0) same h.1.2))) h.1

pub blob_at-bytes-requires-clause-meets : goal.blob_at-bytes-requires-clause-meets
blob_at-bytes-requires-clause-meets c = c.requires.ready.structure
