use Rattle.std.proofs.Common.{◌<◌, ◌+◌, List, length}
use Rattle.std.specs.List.{AllByRecursion}
use Rattle.source_model.specs.Forest.{Part}
use Rattle.source_model.specs.Source.{Source}
use Rattle.source_nodes.specs.Pieces.{ArePieces, AreParts}
use Rattle.source_nodes.specs.Readers.{Reads}
use Rattle.lower_members.specs.NumberedLines.{AllLines}
use Rattle.lower_members.specs.Ranged.{IsBodyItem}
use Rattle.lower_members.proofs.NumberedLemmas.{NumbersLeft}
use Rattle.lower_members.proofs.numbered_lines.numbered_lines.Given as goal

abbrev pub invariant-loop-head : goal.invariant-loop-head
invariant-loop-head l = record {
  parts : AreParts l.nodes l.rest;
  lines : AllLines l.nodes (1 + l.count) l.lines.items;
  so_far : (s : Source) → Reads l.reader s → (ps : List Part) → ArePieces l.nodes l.found ps → AllByRecursion (IsBodyItem s) ps
      → l.count < 0xFFFFFFFF → NumbersLeft s l.nodes (1 + l.count) l.rest l.lines.items ps;
}

abbrev pub decreases-loop-head : goal.decreases-loop-head
decreases-loop-head l = length l.rest
