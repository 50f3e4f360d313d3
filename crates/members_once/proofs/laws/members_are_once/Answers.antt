use Rattle.members_once.proofs.Members.{members_are_once}
use Rattle.members_once.proofs.laws.members_are_once.Goals as goal

pub returns : goal.returns
returns c = members_are_once c.orders_are_total.ensures.terms
