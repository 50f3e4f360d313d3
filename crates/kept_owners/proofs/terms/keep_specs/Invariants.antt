use Rattle.std.proofs.Common.{length}
use Rattle.kept_owners.specs.Kept.{AreLeft, Goes}
use Rattle.kept_owners.proofs.terms.keep_specs.Given as goal

abbrev pub invariant-rounds : goal.invariant-rounds
invariant-rounds l = AreLeft l.image l.kept l.left × Goes l.image l.fn.kept l.kept

abbrev pub decreases-rounds : goal.decreases-rounds
decreases-rounds l = length l.left
