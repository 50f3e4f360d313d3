use Rattle.image_demands.proofs.Whole.{signed_below}
use Rattle.image_demands.proofs.Steps.{distinct_next}
use Rattle.image_demands.proofs.values.twice_by.Goals as goal

pub new-requires-2-clause-meets : goal.new-requires-2-clause-meets
new-requires-2-clause-meets g c = c.requires.told.can.meets

pub new-requires-2-clause-scopes : goal.new-requires-2-clause-scopes
new-requires-2-clause-scopes g c = c.requires.told.can.scopes

pub new-requires-2-clause-facts : goal.new-requires-2-clause-facts
new-requires-2-clause-facts g c = c.requires.told.can.facts_are

pub returns : goal.returns
returns g c =
    distinct_next c.args.image.now c.requires.told.can.tables c.tokens_name_one_thing.ensures c.in_ok-members.members c.in_ok-members.ensures c.first_bad.result c.found_at.result
    (signed_below c.args.image.now (g.F.Owners.facts c.args.facts.now) c.requires.told) c.first_bad.ensures.bad c.first_bad.ensures.none c.found_at.ensures
