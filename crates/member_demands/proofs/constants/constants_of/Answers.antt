use Rattle.member_demands.proofs.Ordered.{constants_ascend}
use Rattle.member_demands.proofs.constants.constants_of.Goals as goal

pub owned_rows-requires-clause-order : goal.owned_rows-requires-clause-order
owned_rows-requires-clause-order c = constants_ascend c.args.image.now c.requires.meets
