use Rattle.listing_declarations.proofs.Externs.{externs_are_named}
use Rattle.listing_declarations.proofs.laws.externs_are_named.Goals as goal

pub returns : goal.returns
returns c = externs_are_named c.searches_pass.ensures c.pieces_are_read.ensures c.externs_are_read.ensures c.declarations_are_read.ensures
