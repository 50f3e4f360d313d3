use Rattle.row_parts.proofs.Orders.{attributes_ascend}
use Rattle.image_weights.proofs.attribute_rows.charge_attributes.Goals as goal

pub charge_owned-requires-clause-order : goal.charge_owned-requires-clause-order
charge_owned-requires-clause-order g c = attributes_ascend c.args.source.now.image.now c.requires.meets

pub charge_owned-requires-clause-there : goal.charge_owned-requires-clause-there
charge_owned-requires-clause-there g c = λ row there e. there
