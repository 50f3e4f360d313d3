use Rattle.listing_formed.proofs.Read.{formed_are_read}
use Rattle.listing_formed.proofs.laws.formed_are_read.Goals as goal

pub returns : goal.returns
returns c = formed_are_read c.terms_are_read.ensures c.methods_are_read.ensures c.fields_are_read.ensures
