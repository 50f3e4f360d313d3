use Rattle.kept_owners.proofs.Rounding.{AreWantedTo}
use Rattle.kept_owners.proofs.terms.used_specs.Given as goal

abbrev pub invariant-loop-row : goal.invariant-loop-row
invariant-loop-row l = AreWantedTo l.image l.rows l.row
