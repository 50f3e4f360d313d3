use Rattle.std.proofs.Common.{◌≡◌, length}
use Rattle.source_model.specs.Forest.{Forest, preorder}
use Rattle.source_model.specs.Nodes.{Around}
use Rattle.source_model.specs.Source.{Source}
use Rattle.source_nodes.specs.Derived.{HasBodies}
use Rattle.source_nodes.specs.Readers.{Reads}
use Rattle.source_nodes.specs.Walk.{IsForest}
use Rattle.check_members.specs.MemberReading.{Serves}
use Rattle.check_visitor.specs.Surroundings.{HasParameters, IsSurrounding}
use Rattle.check_members.proofs.MemberWalks.{LeftOf}
use Rattle.check_members.proofs.member_reading.Signatures.again_of.Given as goal

abbrev pub invariant-loop-x : goal.invariant-loop-x
invariant-loop-x g l = record {
  forest : IsForest l.left;
  so_far : (s : Source) (a : Around) (f : Forest) → Serves (g.R.Rule.broken l.self.rule.now) l.self.scopes s → Reads l.reader s → IsSurrounding l.place a → HasParameters s l.place a
      → preorder f ≡ l.nodes → HasBodies s f → LeftOf s a l.kind l.level f l.left l.found l.before;
}

abbrev pub decreases-loop-x : goal.decreases-loop-x
decreases-loop-x g l = length l.left
