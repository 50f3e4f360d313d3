use Rattle.std.proofs.Common.{◌≡◌, ◌≤◌, ◌%◌, ◌^◌, length, drop}
use Rattle.source_model.specs.Values.{little_number}
use Rattle.lower_bodies.proofs.reals.little_number.Given as goal

abbrev pub invariant-loop-more : goal.invariant-loop-more
invariant-loop-more l = record {
  within : l.more ≤ length l.bytes;
  so_far : l.number ≡ little_number (drop l.more l.bytes) % 2 ^ 64;
}

abbrev pub decreases-loop-more : goal.decreases-loop-more
decreases-loop-more l = l.more
