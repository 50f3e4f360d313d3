use Rattle.std.proofs.Common.{◌≡◌, length}
use Rattle.source_model.specs.Forest.{Forest, preorder}
use Rattle.source_model.specs.Nodes.{Around}
use Rattle.source_model.specs.Source.{Source}
use Rattle.source_nodes.specs.Derived.{HasBodies}
use Rattle.source_nodes.specs.Readers.{Reads}
use Rattle.source_nodes.specs.Walk.{IsForest}
use Rattle.check_members.specs.MemberReading.{Serves}
use Rattle.check_members.specs.OwnMethods.{own_methods}
use Rattle.check_visitor.specs.Surroundings.{HasParameters, IsSurrounding}
use Rattle.check_members.proofs.AccessorWalks.{AccessorsLeft}
use Rattle.check_members.proofs.member_reading.Signatures.accessors.Given as goal

abbrev pub invariant-loop-x : goal.invariant-loop-x
invariant-loop-x g l = record {
  forest : IsForest l.left;
  so_far : (s : Source) (a : Around) (f : Forest) → Serves (g.R.Rule.broken l.self.rule.now) l.self.scopes s → Reads l.reader s → IsSurrounding l.place a
      → HasParameters s l.place a → a.path ≡ l.path → l.methods ≡ own_methods s a → preorder f ≡ l.nodes → HasBodies s f → AccessorsLeft s a f l.left l.found;
}

abbrev pub decreases-loop-x : goal.decreases-loop-x
decreases-loop-x g l = length l.left
