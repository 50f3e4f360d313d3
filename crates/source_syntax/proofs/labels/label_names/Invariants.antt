use Rattle.std.proofs.Common.{◌≡◌, List, [], ◌++◌, take}
use Rattle.std.specs.List.{flat_map}
use Rattle.source_model.specs.BodyFaults.{label_names_in}
use Rattle.source_model.specs.Forest.{Part}
use Rattle.source_nodes.specs.Pieces.{ArePieces}
use Rattle.source_syntax.proofs.labels.label_names.Given as goal

abbrev pub invariant-loop-piece : goal.invariant-loop-piece
invariant-loop-piece l = (ps : List Part) → ArePieces l.nodes l.piece-items ps → l.tokens ≡ [] ++ flat_map label_names_in (take l.piece-index ps)
