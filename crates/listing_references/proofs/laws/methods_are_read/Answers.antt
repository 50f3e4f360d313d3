use Rattle.listing_references.proofs.Methods.{methods_are_read}
use Rattle.listing_references.proofs.laws.methods_are_read.Goals as goal

pub returns : goal.returns
returns c =
    methods_are_read c.names_are_read.ensures c.conventions_are_read.ensures c.arguments_are_read.ensures c.method_names_are_read.ensures
    c.generics_are_read.ensures c.paths_are_read.ensures c.terms_are_read.ensures c.searches_pass.ensures c.references_stand.ensures
