use Rattle.std.proofs.Common.{◌≡◌, ◌++◌, take}
use Rattle.code_flow.specs.Methods.{places_in}
use Rattle.all_bodies.proofs.places.add_methods.Given as goal

abbrev pub invariant-loop-k : goal.invariant-loop-k
invariant-loop-k l = l.into ≡ l.initial.into ++ places_in l.places (take l.k l.methods)
