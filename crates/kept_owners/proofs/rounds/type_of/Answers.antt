use Rattle.image_model.specs.Streams.{blobs_of}
use Rattle.kept_owners.proofs.Keeping.{read_so}
use Rattle.kept_owners.proofs.rounds.type_of.Goals as goal

pub returns : goal.returns
returns c =
    read_so c.args.image.now c.args.kept.now c.args.row (c.one_content_at_an_index.ensures.blob (blobs_of c.args.image.now)) c.blob_at-bytes.result.now c.blob_at-bytes.ensures c.decode_type.result
    c.decode_type.ensures.found c.decode_type.ensures.none
