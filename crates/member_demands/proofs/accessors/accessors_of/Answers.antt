use Rattle.member_demands.proofs.Ordered.{semantics_ascend}
use Rattle.member_demands.proofs.accessors.accessors_of.Goals as goal

pub owned_rows-requires-clause-order : goal.owned_rows-requires-clause-order
owned_rows-requires-clause-order c = semantics_ascend c.args.image.now c.requires.meets
