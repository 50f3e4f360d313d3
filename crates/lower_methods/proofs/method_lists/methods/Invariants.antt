use Rattle.std.proofs.Common.{◌≡◌, List, take}
use Rattle.std.specs.List.{AllByRecursion}
use Rattle.source_model.specs.Forest.{Part}
use Rattle.source_model.specs.Members.{methods}
use Rattle.source_model.specs.Nodes.{Around}
use Rattle.source_model.specs.Source.{Source}
use Rattle.source_nodes.specs.Pieces.{ArePieces}
use Rattle.source_syntax.specs.Places.{IsAt}
use Rattle.lower_methods.specs.SoundMethods.{IsWholePart}
use Rattle.lower_methods.proofs.method_lists.methods.Given as goal

abbrev pub invariant-loop-piece : goal.invariant-loop-piece
invariant-loop-piece l = (s : Source) (a : Around) → IsAt l.place s a → (ps : List Part) → ArePieces l.nodes l.found ps → AllByRecursion (IsWholePart s) ps
    → l.all ≡ methods s a (take l.piece-index ps)
