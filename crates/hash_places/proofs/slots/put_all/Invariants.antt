use Rattle.std.proofs.Common.{◌≡◌, ◌≤◌, length}
use Rattle.hash_places.specs.Slots.{IsTable}
use Rattle.hash_places.proofs.SlotLemmas.{ArePut}
use Rattle.hash_places.proofs.slots.put_all.Given as goal

abbrev pub invariant-loop-slot : goal.invariant-loop-slot
invariant-loop-slot l = record {
  table : IsTable l.others l.used;
  long : length l.others ≡ length l.initial.others;
  few : l.used ≤ l.slot-index;
  put : ArePut l.slots l.others l.slot-index;
}
