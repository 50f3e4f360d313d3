use Rattle.std.proofs.Common.{◌<◌, ◌^◌, List, length}
use Rattle.std.specs.List.{AllByRecursion}
use Rattle.source_model.specs.Forest.{Part}
use Rattle.source_model.specs.Nodes.{Around}
use Rattle.source_model.specs.Source.{Source}
use Rattle.source_nodes.specs.Pieces.{ArePieces, AreParts}
use Rattle.source_syntax.specs.Places.{IsAt}
use Rattle.lower_members.specs.Ranged.{IsRangedItem}
use Rattle.lower_members.proofs.GivenLemmas.{LinesLeft}
use Rattle.lower_members.proofs.line_attributes.line_attributes.Given as goal

abbrev pub invariant-loop-head : goal.invariant-loop-head
invariant-loop-head l = record {
  parts : AreParts l.nodes l.rest;
  so_far : (s : Source) (a : Around) → IsAt l.place s a → (ps : List Part) → ArePieces l.nodes l.found ps → AllByRecursion (IsRangedItem s) ps
      → length l.names < 2 ^ 32 → LinesLeft s a l.names l.nodes l.rest l.given.items ps;
}

abbrev pub decreases-loop-head : goal.decreases-loop-head
decreases-loop-head l = length l.rest
