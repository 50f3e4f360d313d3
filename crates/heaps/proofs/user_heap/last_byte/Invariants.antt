use Rattle.std.proofs.Common.{length}
use Rattle.heaps.specs.Written.{HasSpecial}
use Rattle.heaps.proofs.user_heap.last_byte.Given as goal

abbrev pub invariant-loop-rest : goal.invariant-loop-rest
invariant-loop-rest l = record {
  here : HasSpecial l.rest → HasSpecial l.units;
  later : HasSpecial l.units → HasSpecial l.rest;
}

abbrev pub decreases-loop-rest : goal.decreases-loop-rest
decreases-loop-rest l = length l.rest
