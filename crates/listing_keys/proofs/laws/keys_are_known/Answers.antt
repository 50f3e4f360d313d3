use Rattle.listing_keys.proofs.Known.{keys_are_known}
use Rattle.listing_keys.proofs.laws.keys_are_known.Goals as goal

pub returns : goal.returns
returns c =
    keys_are_known c.names_are_read.ensures c.searches_pass.ensures c.first_is_there.ensures c.declarations_are_read.ensures c.externs_are_named.ensures
    c.keys_differ.ensures
