use Rattle.listing_denotes.proofs.QuietWhole.{declarations_denote}
use Rattle.listing_denotes.proofs.quiet.declarations_denote.Goals as goal

pub returns : goal.returns
returns c = declarations_denote c.quiet_listings_denote.ensures c.listings_break_by_declarations.ensures
