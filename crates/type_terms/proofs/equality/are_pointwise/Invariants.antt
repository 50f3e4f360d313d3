use Rattle.std.proofs.Common.{◌≡◌, length}
use lib.Pointwise.{pointwise}
use Rattle.type_terms.specs.Same.{is_same_type}
use Rattle.type_terms.proofs.equality.are_pointwise.Given as goal

abbrev pub invariant-loop-rest : goal.invariant-loop-rest
invariant-loop-rest l = pointwise is_same_type l.types l.others ≡ pointwise is_same_type l.rest l.other_rest

abbrev pub decreases-loop-rest : goal.decreases-loop-rest
decreases-loop-rest l = length l.rest
