use Rattle.std.proofs.Common.{refl}
use Rattle.heaps.specs.LookUp.{blob_in}
use Rattle.image_model.specs.Streams.{blobs_of}
use Rattle.interface_numbers.proofs.Likening.{none_in}
use Rattle.interface_numbers.proofs.alike.blob_in.Goals as goal

pub returns-in-None : goal.returns-in-None
returns-in-None c =
    none_in (blobs_of c.args.image.now) c.args.index c.blob_is_computed.ensures (rw c.blobs.ensures at c.in-None.ensures.none) (blob_in (blobs_of c.args.image.now) c.args.index) refl
