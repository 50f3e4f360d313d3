use Rattle.std.proofs.Common.{◌+◌}
use Rattle.print_leaves.proofs.paper.Paper.+add_hex.Given as goal

abbrev pub decreases-add_hex : goal.decreases-add_hex
decreases-add_hex l = l.width + l.number
