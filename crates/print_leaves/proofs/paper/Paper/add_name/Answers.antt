use Rattle.print_leaves.proofs.Parts.{name_done}
use Rattle.print_leaves.proofs.paper.Paper.add_name.Goals as goal

pub returns : goal.returns
returns c =
    name_done c.args.self.now _ _ _ _ c.args.text.now c.in_ok-last.ensures.before c.len-start.ensures.length c.in_ok-last.ensures.last c.in_ok-add_ending.ensures
