use Rattle.member_demands.proofs.Ordered.{layouts_ascend}
use Rattle.field_data.proofs.layouts.layouts_of.Goals as goal

pub owned_rows-requires-clause-order : goal.owned_rows-requires-clause-order
owned_rows-requires-clause-order c = layouts_ascend c.args.image.now c.requires.meets
