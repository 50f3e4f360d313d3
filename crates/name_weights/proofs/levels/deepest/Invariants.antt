use Rattle.std.proofs.Common.{◌+◌}
use Rattle.name_weights.specs.Weights.{IsDeepest}
use Rattle.name_weights.proofs.levels.deepest.Given as goal

abbrev pub invariant-loop-k : goal.invariant-loop-k
invariant-loop-k l = IsDeepest l.given.image l.deepest (l.k + 1)
