use Rattle.std.proofs.Common.{◌≡◌, take}
use Rattle.std.specs.List.{sum_by}
use Rattle.all_bodies.proofs.CountLemmas.{with_bodies}
use Rattle.all_bodies.proofs.counting.bodies_of.Given as goal

abbrev pub invariant-loop-method : goal.invariant-loop-method
invariant-loop-method l = l.count ≡ sum_by with_bodies (take l.method-index l.methods)
