use Rattle.std.proofs.Common.{◌≡◌, List, take}
use Rattle.std.specs.List.{AllByRecursion, flat_map}
use Rattle.source_flags.specs.InRange.{AllInRange}
use Rattle.source_model.specs.Forest.{Part}
use Rattle.source_model.specs.Source.{Source}
use Rattle.source_nodes.specs.Pieces.{ArePieces}
use Rattle.source_nodes.specs.Readers.{Reads}
use Rattle.lower_members.specs.Runs.{bytes_of_each}
use Rattle.lower_members.proofs.LabelledLemmas.{labelled_bytes}
use Rattle.lower_members.proofs.labelled_data.contents_of.Given as goal

abbrev pub invariant-loop-piece : goal.invariant-loop-piece
invariant-loop-piece l = (s : Source) (ps : List Part) → Reads l.reader s → ArePieces l.reader.nodes.now l.all ps → AllByRecursion (λ p. AllInRange s p.below) ps
    → bytes_of_each l.contents ≡ flat_map (labelled_bytes s) (take l.piece-index ps)
