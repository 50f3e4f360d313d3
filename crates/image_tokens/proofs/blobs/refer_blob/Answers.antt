use Rattle.std.proofs.Common.{length, ◌+◌, arith}
use Rattle.image_tokens.proofs.AddedLemmas.{always, blob_goes}
use Rattle.image_tokens.proofs.SizeLemmas.{room_for_blobs}
use Rattle.image_tokens.proofs.blobs.refer_blob.Goals as goal

pub add_blob-requires : goal.add_blob-requires
add_blob-requires c = let room = room_for_blobs c.args.refs.now (length c.args.blob.now + 4) c.requires.room in omega arith

pub returns-clause-goes : goal.returns-clause-goes
returns-clause-goes c =
    let size = c.add_blob.ensures.size in
    always c.add_blob.result (blob_goes c.args.refs.now c.add_blob.new.blobs (length c.args.blob.now + 4) c.requires.known c.add_blob.ensures.keeps (omega arith))
