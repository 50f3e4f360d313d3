use Rattle.listing_denotes.proofs.ClassesDenote.{listings_denote}
use Rattle.listing_denotes.proofs.classes.listings_denote.Goals as goal

pub returns : goal.returns
returns c = listings_denote c.members_denote.ensures c.types_break_nothing.ensures c.methods_break_nothing.ensures
