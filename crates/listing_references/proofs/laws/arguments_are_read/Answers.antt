use Rattle.listing_references.proofs.Arguments.{arguments_are_read}
use Rattle.listing_references.proofs.laws.arguments_are_read.Goals as goal

pub returns : goal.returns
returns c = arguments_are_read c.terms_are_read.ensures
