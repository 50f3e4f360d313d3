use Rattle.std.proofs.Common.{◌≡◌, ◌≤◌, length}
use Rattle.source_model.specs.Forest.{Forest, preorder}
use Rattle.source_model.specs.Nodes.{Around}
use Rattle.source_model.specs.Source.{Source}
use Rattle.source_nodes.specs.Walk.{IsForest}
use Rattle.elaborate.specs.Bases.{is_outside}
use Rattle.elaborate.specs.ClassParts.{IsKnown}
use Rattle.elaborate.specs.WholeParts.{AllWhole}
use Rattle.elaborate.proofs.ClassWalks.{Walked}
use Rattle.elaborate.proofs.classes.+classes_in.Given as goal

abbrev pub invariant-loop-node : goal.invariant-loop-node
invariant-loop-node g l = record {
  forest : IsForest l.left;
  shorter : length l.left ≤ length l.nodes;
  so_far : (s : Source) (a : Around) (f : Forest) → g.R.MemberReader.knows l.members s → IsKnown l.known s → l.outside ≡ is_outside a.path → preorder f ≡ l.nodes
      → AllWhole s f → Walked s a f l.left l.all;
}

abbrev pub decreases-loop-node : goal.decreases-loop-node
decreases-loop-node g l = length l.left

abbrev pub decreases-classes_in : goal.decreases-classes_in
decreases-classes_in g l = length l.nodes.now
