use Rattle.listing_denotes.proofs.BodiesMethods.{methods_break_nothing}
use Rattle.listing_denotes.proofs.bodies.methods_break_nothing.Goals as goal

pub returns : goal.returns
returns c = methods_break_nothing c.bodies_break_nothing.ensures c.methods_break_by_bodies.ensures c.declarations_are_read.ensures
