use Rattle.std.proofs.Common.{◌≡◌, ◌≤◌, ◌*◌, ◌+◌, length}
use Rattle.source_model.specs.Forest.{Forest, preorder}
use Rattle.source_model.specs.Nodes.{Around}
use Rattle.source_model.specs.Source.{Source}
use Rattle.source_nodes.specs.Derived.{HasBodies}
use Rattle.source_nodes.specs.Readers.{Reads}
use Rattle.source_nodes.specs.Walk.{IsForest}
use Rattle.check_members.specs.MemberReading.{Serves}
use Rattle.check_members.specs.OwnMethods.{own_methods}
use Rattle.check_visitor.specs.Surroundings.{HasParameters, IsSurrounding}
use Rattle.check_members.proofs.AccessorWalks.{Walked}
use Rattle.check_members.proofs.member_reading.Signatures.+classes.Given as goal

abbrev pub decreases-undeclared_in : goal.decreases-undeclared_in
decreases-undeclared_in g l = 2 * length l.nodes.now

abbrev pub decreases-undeclared_in_class : goal.decreases-undeclared_in_class
decreases-undeclared_in_class g l = 2 * length l.class.now + 1

abbrev pub invariant-undeclared_in-loop-node : goal.invariant-undeclared_in-loop-node
invariant-undeclared_in-loop-node g l = record {
  forest : IsForest l.left;
  shorter : length l.left ≤ length l.nodes;
  kept : l.path ≡ l.initial.path;
  so_far : (s : Source) (a : Around) (f : Forest) → Serves (g.R.Rule.broken l.self.rule.now) l.self.scopes s → Reads l.reader s → IsSurrounding l.place a
      → HasParameters s l.place a → a.path ≡ l.initial.path → l.methods ≡ own_methods s a → preorder f ≡ l.nodes → HasBodies s f → Walked s a f l.left l.found;
}

abbrev pub decreases-undeclared_in-loop-node : goal.decreases-undeclared_in-loop-node
decreases-undeclared_in-loop-node g l = length l.left
