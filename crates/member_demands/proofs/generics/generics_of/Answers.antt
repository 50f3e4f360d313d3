use Rattle.member_demands.proofs.Ordered.{generics_ascend}
use Rattle.member_demands.proofs.generics.generics_of.Goals as goal

pub owned_rows-requires-clause-order : goal.owned_rows-requires-clause-order
owned_rows-requires-clause-order c = generics_ascend c.args.image.now c.requires.meets
