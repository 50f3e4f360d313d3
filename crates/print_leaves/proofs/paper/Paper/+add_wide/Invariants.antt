use Rattle.print_leaves.proofs.paper.Paper.+add_wide.Given as goal

abbrev pub decreases-add_wide : goal.decreases-add_wide
decreases-add_wide l = l.number
