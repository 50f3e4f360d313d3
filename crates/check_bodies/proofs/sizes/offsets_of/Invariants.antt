use Rattle.std.proofs.Common.{◌≡◌, ◌+◌, ◌++◌, map, drop, sum_by}
use Rattle.assembly_tree.specs.WellFormedBodies.{size_of}
use Rattle.source_model.specs.Forest.{Forest, preorder}
use Rattle.source_model.specs.Instructions.{instructions_of}
use Rattle.source_model.specs.Nodes.{Around}
use Rattle.source_model.specs.Operands.{instruction}
use Rattle.source_model.specs.Source.{Source}
use Rattle.source_nodes.specs.Pieces.{ArePieces}
use Rattle.source_nodes.specs.Readers.{Reads}
use Rattle.check_bodies.specs.Sizes.{offsets_from}
use Rattle.check_bodies.proofs.sizes.offsets_of.Given as goal

abbrev pub invariant-loop-piece : goal.invariant-loop-piece
invariant-loop-piece l = (s : Source) (a : Around) (f : Forest) → Reads l.reader s → preorder f ≡ l.nodes → ArePieces l.nodes l.pieces (instructions_of f)
    → (l.offsets ++ offsets_from l.at (map (λ p. size_of (instruction s a f p)) (drop l.piece-index (instructions_of f)))
    ≡ offsets_from 0 (map (λ p. size_of (instruction s a f p)) (instructions_of f)))
    × (l.at + sum_by (λ p. size_of (instruction s a f p)) (drop l.piece-index (instructions_of f)) ≡ sum_by (λ p. size_of (instruction s a f p)) (instructions_of f))
