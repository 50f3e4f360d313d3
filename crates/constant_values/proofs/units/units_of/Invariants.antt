use Rattle.std.proofs.Common.{◌≡◌, ◌++◌, List, ℕ, length, option_map}
use Rattle.image_model.specs.Units.{units_of}
use Rattle.constant_values.proofs.units.units_of.Given as goal

abbrev pub invariant-loop-rest : goal.invariant-loop-rest
invariant-loop-rest l = units_of l.bytes ≡ option_map (λ (more : List ℕ). l.units ++ more) (units_of l.rest)

abbrev pub decreases-loop-rest : goal.decreases-loop-rest
decreases-loop-rest l = length l.rest
