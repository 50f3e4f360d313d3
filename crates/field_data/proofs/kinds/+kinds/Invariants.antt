use Rattle.std.proofs.Common.{◌*◌, ◌+◌}
use Rattle.field_data.proofs.kinds.+kinds.Given as goal

abbrev pub decreases-kind_at : goal.decreases-kind_at
decreases-kind_at l = 2 * l.depth

abbrev pub decreases-parts_at : goal.decreases-parts_at
decreases-parts_at l = 2 * l.depth + 1
