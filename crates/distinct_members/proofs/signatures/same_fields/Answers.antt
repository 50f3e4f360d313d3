use Rattle.std.proofs.Common.{sym, ◌∙◌, ap}
use Rattle.heaps.specs.LookUp.{blob_in}
use Rattle.image_model.specs.Streams.{blobs_of}
use Rattle.distinct_members.proofs.Signing.{fields_told}
use Rattle.distinct_members.proofs.signatures.same_fields.Goals as goal

pub returns : goal.returns
returns g c =
    let heap = blobs_of c.args.image.now in
    fields_told c.args.image.now (g.N.Numbering.canon c.args.numbers.now) c.requires.tells c.args.a c.args.b c.blob_there-one.result.now c.blob_there-other.result.now c.same_field.result c.requires.one c.requires.other
    (λ bytes e. c.blob_there-one.ensures bytes (ap (blob_in heap) c.field_index.ensures ∙ e)) (λ bytes e. c.blob_there-other.ensures bytes (ap (blob_in heap) c.field_index-2.ensures ∙ e)) c.same_field.ensures
