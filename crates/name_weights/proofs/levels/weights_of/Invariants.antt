use Rattle.name_weights.specs.Weights.{AreWeighed}
use Rattle.name_weights.proofs.levels.weights_of.Given as goal

abbrev pub invariant-loop-level : goal.invariant-loop-level
invariant-loop-level l = AreWeighed l.given.image l.level 0 l.weights.items
