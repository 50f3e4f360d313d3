use Rattle.print_leaves.proofs.Parts.{type_done}
use Rattle.print_leaves.proofs.paper.Paper.add_type_name.Goals as goal

pub returns : goal.returns
returns c = type_done c.args.self.now _ _ _ c.args.space.now c.args.text.now c.in_ok-add_space.ensures c.len-start.ensures.length c.in_ok-add_ending.ensures
