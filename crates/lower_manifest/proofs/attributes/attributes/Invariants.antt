use Rattle.std.proofs.Common.{◌≡◌, List, map, take}
use Rattle.std.specs.List.{AllByRecursion}
use Rattle.source_model.specs.Forest.{Part}
use Rattle.source_model.specs.Manifests.{attribute}
use Rattle.source_model.specs.Nodes.{Around}
use Rattle.source_model.specs.Source.{Source}
use Rattle.source_nodes.specs.Pieces.{ArePieces}
use Rattle.source_syntax.specs.Places.{IsAt}
use Rattle.lower_manifest.specs.Customs.{IsCustom}
use Rattle.lower_manifest.proofs.attributes.attributes.Given as goal

abbrev pub invariant-loop-piece : goal.invariant-loop-piece
invariant-loop-piece l = (s : Source) (a : Around) → IsAt l.place s a → (ps : List Part) → ArePieces l.nodes l.found ps → AllByRecursion (IsCustom s) ps
    → l.all ≡ map (λ p. attribute s a p.below) (take l.piece-index ps)
