use Rattle.listing_references.proofs.Heads.{generics_are_read}
use Rattle.listing_references.proofs.laws.generics_are_read.Goals as goal

pub returns : goal.returns
returns c = generics_are_read c.numbers_are_read.ensures c.terms_are_read.ensures c.searches_pass.ensures c.terms_stand.ensures
