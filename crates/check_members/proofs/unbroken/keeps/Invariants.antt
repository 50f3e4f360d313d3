use Rattle.std.proofs.Common.{◌≡◌, length}
use Rattle.source_model.specs.Forest.{Forest, preorder}
use Rattle.source_model.specs.Nodes.{Around}
use Rattle.source_model.specs.Source.{Source}
use Rattle.source_nodes.specs.Derived.{HasBodies}
use Rattle.source_nodes.specs.Readers.{Reads}
use Rattle.source_nodes.specs.Walk.{IsForest}
use Rattle.check_members.specs.MemberKinds.{signature_parts}
use Rattle.check_visitor.specs.Surroundings.{HasParameters, IsSurrounding}
use Rattle.check_members.proofs.KeepLemmas.{Left}
use Rattle.check_members.proofs.unbroken.keeps.Given as goal

abbrev pub invariant-loop-node : goal.invariant-loop-node
invariant-loop-node g l = record {
  forest : IsForest l.left;
  so_far : (s : Source) (a : Around) (f : Forest) → Reads l.reader s → IsSurrounding l.place a → HasParameters s l.place a → preorder f ≡ l.nodes → HasBodies s f → Left (g.R.Rule.broken l.rule) s a (signature_parts l.kind) f l.left;
}

abbrev pub decreases-loop-node : goal.decreases-loop-node
decreases-loop-node g l = length l.left
