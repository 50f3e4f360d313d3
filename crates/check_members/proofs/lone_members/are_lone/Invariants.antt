use Rattle.std.proofs.Common.{◌≡◌, List, None, length}
use Rattle.type_terms.specs.declared.name.TypeId.{TypeId}
use Rattle.source_model.specs.Forest.{Forest, preorder}
use Rattle.source_model.specs.Source.{Source}
use Rattle.source_nodes.specs.Derived.{HasBodies}
use Rattle.source_nodes.specs.Walk.{IsForest}
use Rattle.check_members.specs.declared.member_kinds.Level.TheVariants as level
use Rattle.check_members.proofs.LoneLemmas.{LeftLone}
use Rattle.check_members.proofs.WithinLemmas.{Walked}
use Rattle.check_members.proofs.lone_members.are_lone.Given as goal

abbrev pub invariant-loop-node : goal.invariant-loop-node
invariant-loop-node l = record {
  forest : IsForest l.left;
  lone : (f : Forest) → preorder f ≡ l.class → LeftLone level.Class f l.left l.met;
  classless : (s : Source) (path : List TypeId) (f : Forest) → preorder f ≡ l.class → HasBodies s f → Walked s path f l.left None;
}

abbrev pub decreases-loop-node : goal.decreases-loop-node
decreases-loop-node l = length l.left
