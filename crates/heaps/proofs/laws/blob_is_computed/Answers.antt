use Rattle.heaps.proofs.Computed.{blob_is_computed}
use Rattle.heaps.proofs.laws.blob_is_computed.Goals as goal

pub returns : goal.returns
returns c = blob_is_computed
