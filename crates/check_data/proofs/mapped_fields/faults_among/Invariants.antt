use Rattle.std.proofs.Common.{◌≡◌, length}
use Rattle.source_model.specs.Forest.{Forest, preorder}
use Rattle.source_model.specs.Nodes.{Around, nodes_in}
use Rattle.source_model.specs.Source.{Source}
use Rattle.source_nodes.specs.Derived.{HasBodies}
use Rattle.source_nodes.specs.Walk.{IsForest}
use Rattle.check_data.specs.FieldFaults.{Maps}
use Rattle.check_data.proofs.FieldLemmas.{Asking}
use Rattle.check_data.proofs.mapped_fields.faults_among.Given as goal

abbrev pub invariant-loop-x : goal.invariant-loop-x
invariant-loop-x l = record {
  forest : IsForest l.left;
  so_far : (s : Source) (a : Around) (f : Forest) → Maps l.mapping s → preorder f ≡ l.nodes → HasBodies s f → Asking s (nodes_in s a f) l.left l.found;
}

abbrev pub decreases-loop-x : goal.decreases-loop-x
decreases-loop-x l = length l.left
