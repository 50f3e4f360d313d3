use Rattle.std.proofs.Common.{◌≡◌, sym, subst}
use Rattle.heaps.specs.Content.{HasBlob}
use Rattle.image_model.specs.Streams.{blobs_of}
use Rattle.sig_codec.specs.Signature.{IsField}
use Rattle.field_data.specs.Kinds.{IsOfKind}
use Rattle.data_demands.proofs.sizes.field_kind.Goals as goal

pub returns-in-Some : goal.returns-in-Some
returns-in-Some c names t has =
    let image = c.args.image.now in
    let index = c.signature_of.ensures in
    let there : HasBlob (blobs_of image) c.signature_of.result c.in-Some.blob.now = subst (λ h. HasBlob h c.signature_of.result c.in-Some.blob.now) c.blobs.ensures c.in-Some.ensures.found in
    let same : has.0 ≡ c.in-Some.blob.now
    = c.one_content_at_an_index.ensures.blob (blobs_of image) c.signature_of.result has.0 c.in-Some.blob.now (subst (λ i. HasBlob (blobs_of image) i has.0) (sym index) has.1) there in
    let k = c.data_kind.ensures image names.owners t (subst (λ b. IsField names.owners b t) same has.2) in
    subst (IsOfKind image names.owners t) (sym (c.kind_or_none.ensures k.0 k.1)) k.2

pub returns-in-None : goal.returns-in-None
returns-in-None c names t has =
    let image = c.args.image.now in
    absurd (c.in-None.ensures.none has.0 (subst (λ h. HasBlob h c.signature_of.result has.0) (sym c.blobs.ensures) (subst (λ i. HasBlob (blobs_of image) i has.0) (sym c.signature_of.ensures) has.1)))
