use Rattle.std.proofs.Common.{◌≡◌, ◌≤◌, List, Some, length}
use Rattle.type_terms.specs.declared.name.TypeId.{TypeId}
use Rattle.source_model.specs.Forest.{Forest, preorder}
use Rattle.source_model.specs.Source.{Source}
use Rattle.source_syntax.specs.ClassNumbers.{class_numbered}
use Rattle.source_nodes.specs.Derived.{HasBodies}
use Rattle.source_nodes.specs.Readers.{Reads}
use Rattle.source_nodes.specs.Walk.{IsForest}
use Rattle.check_data.specs.DeclaredSizes.{AreFilled, AreKnown, ClassSize, size_list}
use Rattle.check_data.proofs.SizeWalks.{Filling}
use Rattle.check_data.proofs.declared_sizes.+add_sizes.Given as goal

abbrev pub invariant-loop-node : goal.invariant-loop-node
invariant-loop-node l = record {
  forest : IsForest l.left;
  shorter : length l.left ≤ length l.nodes;
  so_far : (s : Source) (path : List TypeId) (f : Forest) (seen : List ClassSize) → Reads l.reader s → preorder f ≡ l.nodes → HasBodies s f →
      class_numbered l.classes path ≡ Some l.outer → AreKnown l.classes (size_list s path f) → AreFilled l.classes l.initial.sizes seen →
      Filling l.classes s path f seen l.left l.sizes;
}

abbrev pub decreases-loop-node : goal.decreases-loop-node
decreases-loop-node l = length l.left

abbrev pub decreases-add_sizes : goal.decreases-add_sizes
decreases-add_sizes l = length l.nodes.now
