use Rattle.std.proofs.Common.{◌≡◌, map, take}
use Rattle.source_model.specs.Forest.{Forest}
use Rattle.source_model.specs.Instructions.{instructions_of}
use Rattle.source_model.specs.Nodes.{Around}
use Rattle.source_model.specs.Operands.{instruction}
use Rattle.source_model.specs.Source.{Source}
use Rattle.source_nodes.specs.Pieces.{ArePieces}
use Rattle.lower_bodies.specs.BodyPlaces.{IsWithin}
use Rattle.lower_bodies.specs.MethodsInRange.{IsMethodInRange}
use Rattle.lower_bodies.proofs.instructions.code.Given as goal

abbrev pub invariant-loop-piece : goal.invariant-loop-piece
invariant-loop-piece l = (s : Source) (a : Around) (f : Forest) → IsWithin l.at s a f → IsMethodInRange s f → ArePieces l.nodes l.found (instructions_of f)
    → l.all ≡ map (instruction s a f) (take l.piece-index (instructions_of f))
