use Rattle.std.proofs.Common.{List, length}
use Rattle.std.specs.List.{AllByRecursion}
use Rattle.source_model.specs.Forest.{Part}
use Rattle.source_model.specs.Members.{fields}
use Rattle.source_model.specs.Nodes.{Around}
use Rattle.source_model.specs.Source.{Source}
use Rattle.source_nodes.specs.Pieces.{ArePieces, AreParts}
use Rattle.lower_members.specs.FieldContexts.{IsContext}
use Rattle.param_lines.specs.Ranged.{IsRanged}
use Rattle.lower_members.proofs.FieldLemmas.{Left}
use Rattle.lower_members.proofs.fields.fields.Given as goal

abbrev pub invariant-loop-head : goal.invariant-loop-head
invariant-loop-head l = record {
  parts : AreParts l.nodes l.rest;
  so_far : (s : Source) (a : Around) → IsContext l.context s a → (ps : List Part) → ArePieces l.nodes l.found ps → AllByRecursion (IsRanged s) ps
      → Left s a l.nodes l.rest l.all (fields s a ps);
}

abbrev pub decreases-loop-head : goal.decreases-loop-head
decreases-loop-head l = length l.rest
