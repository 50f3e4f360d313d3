use Rattle.std.proofs.Common.{◌≡◌, ◌≤◌, List, Some, length}
use Rattle.type_terms.specs.declared.name.TypeId.{TypeId}
use Rattle.source_model.specs.Forest.{Forest, preorder}
use Rattle.source_model.specs.Source.{Source}
use Rattle.source_syntax.specs.ClassNumbers.{Knows, class_numbered}
use Rattle.check_names.specs.DeclaredClasses.{Kept}
use Rattle.source_nodes.specs.Derived.{HasBodies}
use Rattle.source_nodes.specs.Readers.{Reads}
use Rattle.source_nodes.specs.Walk.{IsForest}
use Rattle.check_names.proofs.ClassWalks.{Adding}
use Rattle.check_names.proofs.class_rules.+add_classes.Given as goal

abbrev pub invariant-loop-node : goal.invariant-loop-node
invariant-loop-node l = record {
  forest : IsForest l.left;
  shorter : length l.left ≤ length l.nodes;
  kept : Kept l.initial.paths l.paths;
  so_far : (s : Source) (path : List TypeId) (f : Forest) (seen : List (List TypeId)) → Reads l.reader s → preorder f ≡ l.nodes → HasBodies s f →
      class_numbered l.initial.paths path ≡ Some l.outer → Knows l.initial.paths seen → Adding s path f seen l.left l.paths l.found;
}

abbrev pub decreases-loop-node : goal.decreases-loop-node
decreases-loop-node l = length l.left

abbrev pub decreases-add_classes : goal.decreases-add_classes
decreases-add_classes l = length l.nodes.now
