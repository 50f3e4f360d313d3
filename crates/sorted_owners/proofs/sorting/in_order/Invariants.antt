use Rattle.std.proofs.Common.{◌≡◌}
use Rattle.sorted_owners.specs.Ranks.{owners_of}
use Rattle.sorted_owners.proofs.sorting.in_order.Given as goal

abbrev pub invariant-loop-owner : goal.invariant-loop-owner
invariant-loop-owner l = l.owners ≡ owners_of l.yielded
