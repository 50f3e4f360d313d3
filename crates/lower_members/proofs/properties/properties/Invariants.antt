use Rattle.std.proofs.Common.{◌≡◌, ◌<◌, ◌^◌, List, length, map, take}
use Rattle.std.specs.List.{AllByRecursion}
use Rattle.source_model.specs.Forest.{Forest, Part}
use Rattle.source_model.specs.Members.{property, properties_in}
use Rattle.source_model.specs.Nodes.{Around}
use Rattle.source_model.specs.Source.{Source}
use Rattle.source_nodes.specs.Pieces.{ArePieces}
use Rattle.source_syntax.specs.Places.{IsAt}
use Rattle.param_lines.specs.Ranged.{IsRanged}
use Rattle.lower_members.specs.SignedMethods.{declared}
use Rattle.lower_members.proofs.properties.properties.Given as goal

abbrev pub invariant-loop-piece : goal.invariant-loop-piece
invariant-loop-piece l = (s : Source) (a : Around) → IsAt l.place s a → (ps : List Part) (ms : List Forest) → ArePieces l.nodes l.found ps → AllByRecursion (IsRanged s) ps
    → l.methods ≡ map (declared s a) ms → length ms < 2 ^ 32 → l.all ≡ map (property s a ms) (properties_in (take l.piece-index ps))
