use Rattle.std.proofs.Common.{◌≡◌, ◌-◌, length}
use Rattle.source_model.specs.Source.{Source}
use Rattle.source_syntax.specs.Methods.{AreNames}
use Rattle.source_nodes.specs.Readers.{Reads}
use Rattle.lower_bodies.proofs.SlotLemmas.{Slotted}
use Rattle.lower_bodies.proofs.label_slots.give_slots.Given as goal

abbrev pub invariant-loop-k : goal.invariant-loop-k
invariant-loop-k l = record {
  size : length l.slots ≡ 64;
  slotted : (s : Source) → Reads l.reader s → AreNames s l.labels → Slotted s l.slots l.labels l.k;
}

abbrev pub decreases-loop-k : goal.decreases-loop-k
decreases-loop-k l = length l.labels - l.k
