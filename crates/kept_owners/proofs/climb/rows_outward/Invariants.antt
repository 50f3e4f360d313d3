use Rattle.kept_owners.proofs.Climbing.{IsClimbing}
use Rattle.kept_owners.proofs.climb.rows_outward.Given as goal

abbrev pub invariant-loop : goal.invariant-loop
invariant-loop l = IsClimbing l.image l.table l.row l.rows l.at l.counter
