use Rattle.sig_codec.specs.Signature.{IsInstantiation}
use Rattle.image_model.specs.Streams.{blobs_of}
use Rattle.kept_members.specs.Members.{owners_of, BlobIs}
use Rattle.kept_members.proofs.Found.{if_found, if_none, none_in}
use Rattle.kept_members.proofs.signatures.arguments_in.Goals as goal

pub returns-clause-found : goal.returns-clause-found
returns-clause-found c =
    if_found (IsInstantiation (owners_of c.args.known.now) c.blob_at-bytes.result.now) (BlobIs c.args.image.now (IsInstantiation (owners_of c.args.known.now)) c.args.table c.args.row c.args.column) c.decode_instantiation.result
    (λ x h. (c.blob_at-bytes.result.now, c.blob_at-bytes.ensures, h)) c.decode_instantiation.ensures.found

pub returns-clause-none : goal.returns-clause-none
returns-clause-none c =
    if_none c.decode_instantiation.result
    (none_in c.args.image.now (IsInstantiation (owners_of c.args.known.now)) c.args.table c.args.row c.args.column c.blob_at-bytes.result.now (c.one_content_at_an_index.ensures.blob (blobs_of c.args.image.now)) c.blob_at-bytes.ensures) c.decode_instantiation.ensures.none
