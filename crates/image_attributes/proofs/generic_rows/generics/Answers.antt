use Rattle.row_parts.proofs.Orders.{generics_ascend}
use Rattle.image_attributes.proofs.generic_rows.generics.Goals as goal

pub read_owned-requires-clause-order : goal.read_owned-requires-clause-order
read_owned-requires-clause-order c = generics_ascend c.args.source.now.image.now c.requires.ready.structure

pub read_owned-requires-clause-there : goal.read_owned-requires-clause-there
read_owned-requires-clause-there c = λ row there e. (there, c.requires.ready)
