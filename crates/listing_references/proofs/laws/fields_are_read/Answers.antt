use Rattle.listing_references.proofs.Fields.{fields_are_read}
use Rattle.listing_references.proofs.laws.fields_are_read.Goals as goal

pub returns : goal.returns
returns c =
    fields_are_read c.names_are_read.ensures c.paths_are_read.ensures c.terms_are_read.ensures c.searches_pass.ensures c.terms_stand.ensures
    c.references_stand.ensures
