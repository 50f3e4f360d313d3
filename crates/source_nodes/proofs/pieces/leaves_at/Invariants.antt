use Rattle.std.proofs.Common.{◌≡◌, List, map, take}
use Rattle.source_model.specs.Forest.{Part, leaf_at}
use Rattle.source_nodes.specs.Pieces.{ArePieces}
use Rattle.source_nodes.proofs.pieces.leaves_at.Given as goal

abbrev pub invariant-loop-piece : goal.invariant-loop-piece
invariant-loop-piece l = (ps : List Part) → ArePieces l.nodes l.found ps → l.tokens ≡ map (λ p. leaf_at l.k p.below) (take l.piece-index ps)
