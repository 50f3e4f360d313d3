use Rattle.listing_denotes.proofs.DenotingWhole.{members_denote}
use Rattle.listing_denotes.proofs.denoting.members_denote.Goals as goal

pub returns : goal.returns
returns c = members_denote c.declarations_denote.ensures c.externs_break_nothing.ensures c.manifests_break_nothing.ensures c.fields_break_nothing.ensures
