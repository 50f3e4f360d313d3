use Rattle.std.proofs.Common.{◌-◌}
use Rattle.row_groups.proofs.Ranges.{IsBetween}
use Rattle.row_groups.proofs.owned.first_from.Given as goal

abbrev pub decreases-loop-first : goal.decreases-loop-first
decreases-loop-first l = l.end - l.first

abbrev pub invariant-loop-first : goal.invariant-loop-first
invariant-loop-first l = IsBetween l.image l.table l.column l.value l.first l.end
