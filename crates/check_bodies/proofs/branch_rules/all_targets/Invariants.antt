use Rattle.std.proofs.Common.{◌≡◌, List, [], ◌++◌, take}
use Rattle.std.specs.List.{flat_map}
use Rattle.source_model.specs.Forest.{Part}
use Rattle.source_model.specs.Instructions.{targets}
use Rattle.source_nodes.specs.Pieces.{ArePieces}
use Rattle.check_bodies.proofs.branch_rules.all_targets.Given as goal

abbrev pub invariant-loop-piece : goal.invariant-loop-piece
invariant-loop-piece l = (ps : List Part) → ArePieces l.nodes l.code ps → l.tokens ≡ [] ++ flat_map targets (take l.piece-index ps)
