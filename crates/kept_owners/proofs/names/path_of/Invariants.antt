use Rattle.std.proofs.Common.{◌-◌}
use Rattle.kept_owners.proofs.Ids.{IdsFrom}
use Rattle.kept_owners.proofs.names.path_of.Given as goal

abbrev pub invariant-loop-k : goal.invariant-loop-k
invariant-loop-k l = IdsFrom l.image l.table l.rows (l.last - l.k) l.path
