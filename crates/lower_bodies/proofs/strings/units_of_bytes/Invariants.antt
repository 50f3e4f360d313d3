use Rattle.std.proofs.Common.{◌≡◌, ◌++◌, length}
use Rattle.source_model.specs.Values.{units_of_bytes}
use Rattle.lower_bodies.proofs.strings.units_of_bytes.Given as goal

abbrev pub invariant-loop-rest : goal.invariant-loop-rest
invariant-loop-rest l = l.all ++ units_of_bytes l.rest ≡ units_of_bytes l.bytes

abbrev pub decreases-loop-rest : goal.decreases-loop-rest
decreases-loop-rest l = length l.rest
