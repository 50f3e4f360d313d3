use Rattle.std.proofs.Common.{◌≡◌, List, drop}
use Rattle.std.specs.List.{enumerate_from, flat_map}
use Rattle.source_model.specs.BodyNumbers.{local_misnumbered}
use Rattle.source_model.specs.Forest.{Part, below_each}
use Rattle.source_model.specs.Source.{Source}
use Rattle.source_nodes.specs.Least.{least, sooner}
use Rattle.source_nodes.specs.Pieces.{ArePieces}
use Rattle.source_nodes.specs.Readers.{Reads}
use Rattle.check_bodies.proofs.body_numbers.misnumbered.Given as goal

abbrev pub invariant-loop-k : goal.invariant-loop-k
invariant-loop-k l = (s : Source) (ps : List Part) → Reads l.reader s → ArePieces l.nodes l.found ps
    → sooner l.first (least (flat_map (local_misnumbered s) (enumerate_from l.k (drop l.k (below_each ps)))))
    ≡ least (flat_map (local_misnumbered s) (enumerate_from 0 (below_each ps)))
