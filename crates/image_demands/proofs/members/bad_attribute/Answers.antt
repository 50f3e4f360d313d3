use Rattle.image_demands.proofs.Steps.{attributes_next}
use Rattle.image_demands.proofs.members.bad_attribute.Goals as goal

pub new-attributes-requires : goal.new-attributes-requires
new-attributes-requires g c = c.requires.told.can

pub returns : goal.returns
returns g c =
    attributes_next c.args.image.now c.requires.told.can.tables c.tokens_name_one_thing.ensures c.new-attributes.result c.new-attributes.ensures c.first_bad.result c.found_at.result c.requires.below
    c.first_bad.ensures.bad c.first_bad.ensures.none c.found_at.ensures
