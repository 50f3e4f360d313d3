use Rattle.std.proofs.Common.{◌-◌, ◌^◌, ◌<◌, ◌≤◌}
use Rattle.hash_places.proofs.slots.slots_for.Given as goal

abbrev pub invariant-loop-slots : goal.invariant-loop-slots
invariant-loop-slots l = record { some : 8 ≤ l.slots; fits : l.slots < 2 ^ 63 }

abbrev pub decreases-loop-slots : goal.decreases-loop-slots
decreases-loop-slots l = 2 ^ 63 - l.slots
