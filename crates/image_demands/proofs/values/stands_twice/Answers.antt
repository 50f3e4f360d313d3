use Rattle.image_demands.proofs.Whole.{is_told, can_tell}
use Rattle.image_demands.proofs.values.stands_twice.Goals as goal

pub new-requires-clause-meets : goal.new-requires-clause-meets
new-requires-clause-meets g c = c.requires.told.can.meets

pub new-requires-clause-scopes : goal.new-requires-clause-scopes
new-requires-clause-scopes g c = c.requires.told.can.scopes

pub new-requires-clause-told : goal.new-requires-clause-told
new-requires-clause-told g c = is_told c.args.image.now (g.F.Owners.facts c.args.facts.now) c.requires.told

pub new-requires-clause-facts : goal.new-requires-clause-facts
new-requires-clause-facts g c = c.requires.told.told

pub twice_by-requires-clause-tells : goal.twice_by-requires-clause-tells
twice_by-requires-clause-tells g c = can_tell c.args.image.now (g.F.Owners.facts c.args.facts.now) c.requires.told _ c.in_ok-numbers.ensures.canon
