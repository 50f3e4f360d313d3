use Rattle.std.proofs.Common.{◌+◌, ◌-◌}
use Rattle.name_weights.specs.Weights.{AreWeighed}
use Rattle.name_weights.proofs.levels.weigh_level.Given as goal

abbrev pub invariant-loop-k : goal.invariant-loop-k
invariant-loop-k l = AreWeighed l.given.image (l.level - 1) (l.k + 1) l.weights
