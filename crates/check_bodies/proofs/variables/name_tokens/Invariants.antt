use Rattle.std.proofs.Common.{◌≡◌, List, [], ◌++◌, take}
use Rattle.std.specs.List.{flat_map}
use Rattle.source_model.specs.Forest.{Part}
use Rattle.source_nodes.specs.Pieces.{ArePieces}
use Rattle.check_bodies.specs.NamedVariables.{name_of}
use Rattle.check_bodies.proofs.variables.name_tokens.Given as goal

abbrev pub invariant-loop-piece : goal.invariant-loop-piece
invariant-loop-piece l = (ps : List Part) → ArePieces l.nodes l.found ps → l.tokens ≡ [] ++ flat_map (λ p. name_of p.below) (take l.piece-index ps)
