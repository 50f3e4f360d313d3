use Rattle.signature_bounds.proofs.Bounding.{bounds_are}
use Rattle.signature_bounds.proofs.laws.bounds_are_signatures.Goals as goal

pub returns : goal.returns
returns c = bounds_are
