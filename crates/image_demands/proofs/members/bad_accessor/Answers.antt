use Rattle.image_demands.proofs.Steps.{accessors_next}
use Rattle.image_demands.proofs.Whole.{all_or}
use Rattle.image_demands.proofs.members.bad_accessor.Goals as goal

pub new-accessors-requires : goal.new-accessors-requires
new-accessors-requires g c = c.requires.told.can.meets

pub returns : goal.returns
returns g c =
    all_or c.args.image.now (g.F.Owners.facts c.args._facts.now) c.requires.told c.found_at.result
    (accessors_next c.args.image.now c.requires.told.can.tables c.new-accessors.result c.new-accessors.ensures c.first_bad.result c.found_at.result c.requires.below
    c.first_bad.ensures.bad c.first_bad.ensures.none c.found_at.ensures)
