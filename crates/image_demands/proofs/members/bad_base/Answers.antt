use Rattle.image_demands.proofs.Steps.{bases_next}
use Rattle.image_demands.proofs.members.bad_base.Goals as goal

pub returns : goal.returns
returns c =
    bases_next c.args.image.now c.tables-tables.ensures.meets c.new-bases.result c.new-bases.ensures c.first_bad.result c.found_at.result c.requires.below
    c.first_bad.ensures.bad c.first_bad.ensures.none c.found_at.ensures
