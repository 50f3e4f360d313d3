use Rattle.std.proofs.Common.{◌-◌, ◌≤◌}
use Rattle.hash_places.specs.Slots.{AreOtherWithin}
use Rattle.hash_places.proofs.slots.stop_within.Given as goal

abbrev pub invariant-loop-k : goal.invariant-loop-k
invariant-loop-k l = record { behind : l.from ≤ l.k; before : AreOtherWithin l.slots l.hash l.from l.k }

abbrev pub decreases-loop-k : goal.decreases-loop-k
decreases-loop-k l = l.to - l.k
