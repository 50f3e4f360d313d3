use Rattle.row_parts.proofs.Orders.{constants_ascend}
use Rattle.image_weights.proofs.constant_rows.charge_constant.Goals as goal

pub charge_first-requires-clause-order : goal.charge_first-requires-clause-order
charge_first-requires-clause-order c = constants_ascend c.args.image.now c.requires.meets

pub charge_first-requires-clause-there : goal.charge_first-requires-clause-there
charge_first-requires-clause-there c = λ row there e. there
