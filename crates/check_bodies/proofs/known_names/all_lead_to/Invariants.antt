use Rattle.std.proofs.Common.{◌≡◌, ◌-◌, List, length, take}
use Rattle.std.specs.Prelude.{true}
use Rattle.std.specs.List.{flat_map, list_all}
use Rattle.source_model.specs.Forest.{Part}
use Rattle.source_model.specs.Instructions.{targets}
use Rattle.source_model.specs.Source.{Source}
use Rattle.source_syntax.specs.Methods.{AreNames}
use Rattle.source_nodes.specs.Pieces.{ArePieces}
use Rattle.source_nodes.specs.Readers.{Reads}
use Rattle.check_bodies.specs.KnownNames.{is_label_of}
use Rattle.check_bodies.proofs.known_names.all_lead_to.Given as goal

abbrev pub invariant-loop-k : goal.invariant-loop-k
invariant-loop-k l = (s : Source) (ps : List Part) → Reads l.reader s → AreNames s l.labels → ArePieces l.nodes l.code ps → AreNames s (flat_map targets ps)
    → list_all (is_label_of s l.labels) (flat_map targets (take l.k ps)) ≡ true

abbrev pub decreases-loop-k : goal.decreases-loop-k
decreases-loop-k l = length l.code - l.k
