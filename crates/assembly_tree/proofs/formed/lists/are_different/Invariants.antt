use Rattle.std.proofs.Common.{◌≡◌, length}
use Rattle.assembly_tree.specs.WellFormedNames.{all_differ}
use Rattle.assembly_tree.proofs.formed.lists.are_different.Given as goal

abbrev pub invariant-loop-rest : goal.invariant-loop-rest
invariant-loop-rest g l = all_differ g.T.Same.same l.items ≡ all_differ g.T.Same.same l.rest

abbrev pub decreases-loop-rest : goal.decreases-loop-rest
decreases-loop-rest g l = length l.rest
