use Rattle.std.proofs.Common.{◌≡◌, ℕ, List, Option, length}
use Rattle.type_terms.specs.declared.name.Scope.{Scope}
use Rattle.type_terms.specs.declared.name.TypeId.{TypeId}
use Rattle.type_terms.specs.declared.term.SigType.{SigType}
use Rattle.source_model.specs.Data.{size_by}
use Rattle.source_model.specs.Forest.{Forest, preorder}
use Rattle.source_model.specs.Nodes.{Around}
use Rattle.source_model.specs.Source.{Source}
use Rattle.source_model.specs.Types.{suffixed}
use Rattle.source_nodes.specs.Walk.{IsForest}
use Rattle.check_names.proofs.StatedSizes.{Sized}
use Rattle.check_names.proofs.stated_sizes.keeps_size.Given as goal

abbrev pub invariant-loop-x : goal.invariant-loop-x
invariant-loop-x l = record {
  forest : IsForest l.left;
  so_far : (s : Source) (a : Around) (f : Forest) → preorder f ≡ l.suffixes → (value : Scope → List TypeId → Option ℕ) (t : SigType) →
      Sized s value a (suffixed s a f t) (size_by value t) l.left;
}

abbrev pub decreases-loop-x : goal.decreases-loop-x
decreases-loop-x l = length l.left
