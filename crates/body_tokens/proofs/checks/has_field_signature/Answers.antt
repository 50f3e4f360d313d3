use Rattle.std.proofs.Common.{subst, sym}
use Rattle.std.proofs.lemmas.Bool.{false≢true}
use Rattle.heaps.specs.Content.{HasBlob}
use Rattle.body_tokens.proofs.Checking.{field_begins, no_field}
use Rattle.body_tokens.proofs.checks.has_field_signature.Goals as goal

pub returns-in-Some : goal.returns-in-Some
returns-in-Some c =
    field_begins c.args.image.now c.args.row c.signature_of.result c.in-Some.bytes.now c.begins_field.result c.signature_of.ensures
    (subst (λ h. HasBlob h c.signature_of.result c.in-Some.bytes.now) c.blobs.ensures c.in-Some.ensures.found) c.begins_field.ensures

pub returns-in-None : goal.returns-in-None
returns-in-None c = (
  λ t. absurd (false≢true t),
  λ f. absurd (no_field c.args.image.now c.args.row c.signature_of.result c.signature_of.ensures
      (λ bytes blob. c.in-None.ensures.none bytes (subst (λ h. HasBlob h c.signature_of.result bytes) (sym c.blobs.ensures) blob)) f),
)
