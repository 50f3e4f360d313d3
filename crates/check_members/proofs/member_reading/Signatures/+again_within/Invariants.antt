use Rattle.std.proofs.Common.{◌≡◌, ◌≤◌, List, length}
use Rattle.std.specs.Prelude.{min}
use Rattle.type_terms.specs.declared.name.TypeId.{TypeId}
use Rattle.source_model.specs.Forest.{Forest, preorder}
use Rattle.source_model.specs.Source.{Source}
use Rattle.source_nodes.specs.Derived.{HasBodies}
use Rattle.source_nodes.specs.Readers.{Reads}
use Rattle.source_nodes.specs.Walk.{IsForest}
use Rattle.check_members.specs.MemberReading.{Serves}
use Rattle.check_members.proofs.WithinLemmas.{Walked}
use Rattle.check_members.proofs.member_reading.Signatures.+again_within.Given as goal

abbrev pub invariant-loop-node : goal.invariant-loop-node
invariant-loop-node g l = record {
  forest : IsForest l.left;
  shorter : length l.left ≤ length l.nodes;
  so_far : (s : Source) (path : List TypeId) (f : Forest) → Serves (g.R.Rule.broken l.self.rule.now) l.self.scopes s → Reads l.reader s →
      l.depth ≡ min (length path) 101 → preorder f ≡ l.nodes → HasBodies s f → Walked s path f l.left l.found;
}

abbrev pub decreases-loop-node : goal.decreases-loop-node
decreases-loop-node g l = length l.left

abbrev pub decreases-again_within : goal.decreases-again_within
decreases-again_within g l = length l.nodes.now
