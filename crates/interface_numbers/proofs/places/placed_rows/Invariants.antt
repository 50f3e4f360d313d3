use Rattle.interface_numbers.specs.Places.{AreFound, ArePlaced}
use Rattle.interface_numbers.proofs.places.placed_rows.Given as goal

abbrev pub invariant-loop-k : goal.invariant-loop-k
invariant-loop-k l = AreFound l.image l.newest l.heads × ArePlaced l.image l.k l.places l.heads
