use Rattle.member_demands.proofs.Ordered.{data_ascend}
use Rattle.data_demands.proofs.fields.data_of.Goals as goal

pub owned_rows-requires-clause-order : goal.owned_rows-requires-clause-order
owned_rows-requires-clause-order c = data_ascend c.args.image.now c.requires.meets
