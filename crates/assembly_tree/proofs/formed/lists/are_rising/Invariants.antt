use Rattle.std.proofs.Common.{◌≡◌, length}
use Rattle.assembly_tree.specs.WellFormedNames.{rises}
use Rattle.assembly_tree.proofs.formed.lists.are_rising.Given as goal

abbrev pub invariant-loop-rest : goal.invariant-loop-rest
invariant-loop-rest g l = rises g.T.Before.before l.items ≡ rises g.T.Before.before l.rest

abbrev pub decreases-loop-rest : goal.decreases-loop-rest
decreases-loop-rest g l = length l.rest
