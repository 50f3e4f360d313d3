use Rattle.listing_references.proofs.Heads.{method_names_are_read}
use Rattle.listing_references.proofs.laws.method_names_are_read.Goals as goal

pub returns : goal.returns
returns c = method_names_are_read c.names_are_read.ensures
