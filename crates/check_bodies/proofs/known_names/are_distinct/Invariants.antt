use Rattle.std.proofs.Common.{◌≡◌, ◌-◌, length, take}
use Rattle.std.specs.Prelude.{None}
use Rattle.source_model.specs.Source.{Source}
use Rattle.source_model.specs.Values.{name_text}
use Rattle.source_syntax.specs.Methods.{AreNames}
use Rattle.source_nodes.specs.Readers.{Reads}
use Rattle.source_syntax.proofs.NamingLemmas.{Found}
use Rattle.check_bodies.proofs.KnownLemmas.{HaveSlots}
use Rattle.check_bodies.proofs.known_names.are_distinct.Given as goal

abbrev pub invariant-loop-k : goal.invariant-loop-k
invariant-loop-k l = record {
  size : length l.slots ≡ 64;
  found : (s : Source) → Reads l.reader s → AreNames s l.labels → Found (name_text s) l.labels l.k None;
  taken : (s : Source) → Reads l.reader s → AreNames s l.labels → HaveSlots s l.slots (take l.k l.labels);
}

abbrev pub decreases-loop-k : goal.decreases-loop-k
decreases-loop-k l = length l.labels - l.k
