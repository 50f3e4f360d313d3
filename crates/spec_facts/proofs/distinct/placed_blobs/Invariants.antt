use Rattle.spec_facts.proofs.Placing.{PlacedSo}
use Rattle.spec_facts.proofs.distinct.placed_blobs.Given as goal

abbrev pub invariant-loop-row : goal.invariant-loop-row
invariant-loop-row l = PlacedSo l.image l.newest l.places l.heads l.row
