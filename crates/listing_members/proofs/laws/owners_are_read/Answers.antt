use Rattle.listing_members.proofs.Owners.{owners_are_read}
use Rattle.listing_members.proofs.laws.owners_are_read.Goals as goal

pub returns : goal.returns
returns c =
    owners_are_read c.formed_are_read.ensures
