use Rattle.std.proofs.Common.{◌≡◌, ◌≤◌, length, map, min}
use Rattle.type_terms.specs.Depth.{depth, largest}
use Rattle.type_terms.specs.declared.term.SigType.{SigType}
use Rattle.source_model.specs.Forest.{Forest, preorder}
use Rattle.source_model.specs.Nodes.{Around}
use Rattle.source_model.specs.Source.{Source}
use Rattle.source_model.specs.TypeRules.{type_too_deep}
use Rattle.source_model.specs.Types.{suffixed, types_in}
use Rattle.source_nodes.specs.Derived.{HasBodies}
use Rattle.source_nodes.specs.Least.{least, sooner}
use Rattle.source_nodes.specs.Walk.{IsForest}
use Rattle.check_visitor.specs.Surroundings.{found_in}
use Rattle.check_names.proofs.DepthRules.{OnlyInSuffixes}
use Rattle.check_names.proofs.DepthWalks.{Deepens}
use Rattle.check_names.proofs.SuffixDepths.{Wraps}
use Rattle.check_names.proofs.type_depths.+depths.Given as goal

abbrev pub decreases-depths_in : goal.decreases-depths_in
decreases-depths_in l = length l.nodes.now

abbrev pub decreases-depths_of : goal.decreases-depths_of
decreases-depths_of l = length l.nodes.now

abbrev pub decreases-suffixed_depths : goal.decreases-suffixed_depths
decreases-suffixed_depths l = length l.nodes.now

abbrev pub invariant-depths_in-loop-x : goal.invariant-depths_in-loop-x
invariant-depths_in-loop-x l = record {
  within : length l.left ≤ length l.nodes;
  forest : IsForest l.left;
  so_far : (s : Source) (a : Around) (f : Forest) → preorder f ≡ l.nodes → HasBodies s f
      → Deepens s a (min (largest (map depth (types_in s a f))) 101) (least (found_in type_too_deep s a f)) l.left l.all;
}

abbrev pub decreases-depths_in-loop-x : goal.decreases-depths_in-loop-x
decreases-depths_in-loop-x l = length l.left

abbrev pub invariant-suffixed_depths-loop-x : goal.invariant-suffixed_depths-loop-x
invariant-suffixed_depths-loop-x l = record {
  within : length l.left ≤ length l.nodes;
  forest : IsForest l.left;
  so_far : (s : Source) (a : Around) (f : Forest) → preorder f ≡ l.nodes → HasBodies s f → OnlyInSuffixes f → (t : SigType) → l.fn.base.depth ≡ min (depth t) 101
      → Wraps s a (depth (suffixed s a f t)) (sooner l.fn.base.broken (least (found_in type_too_deep s a f))) l.left l.of;
}

abbrev pub decreases-suffixed_depths-loop-x : goal.decreases-suffixed_depths-loop-x
decreases-suffixed_depths-loop-x l = length l.left
