use Rattle.kept_owners.specs.Kept.{RoundSo}
use Rattle.kept_owners.proofs.rounds.round.Given as goal

abbrev pub invariant-loop-k : goal.invariant-loop-k
invariant-loop-k l = RoundSo l.image l.fn.kept l.kept l.rows l.left l.k
