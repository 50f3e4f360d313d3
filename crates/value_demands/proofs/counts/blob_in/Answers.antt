use Rattle.std.proofs.Common.{sym}
use Rattle.heaps.proofs.Computed.{blob_is_computed}
use Rattle.image_model.specs.Streams.{blobs_of}
use Rattle.attribute_demands.proofs.Named.{no_blob}
use Rattle.value_demands.proofs.counts.blob_in.Goals as goal

pub returns-in-Some : goal.returns-in-Some
returns-in-Some c = sym ((blob_is_computed (blobs_of c.args.image.now) c.args.index c.in-Some.blob.now).0 (rw c.blobs.ensures at c.in-Some.ensures.found))

pub returns-in-None : goal.returns-in-None
returns-in-None c = sym (no_blob (blobs_of c.args.image.now) c.args.index (rw c.blobs.ensures at c.in-None.ensures.none))
