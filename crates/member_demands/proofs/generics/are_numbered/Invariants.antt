use Rattle.std.proofs.Common.{◌≡◌, ℕ, ◌+◌, ◌<◌}
use Rattle.image_model.specs.Columns.{generic_number}
use Rattle.member_demands.proofs.generics.are_numbered.Given as goal

abbrev pub invariant-loop-k : goal.invariant-loop-k
invariant-loop-k l = (j : ℕ) → j < l.k → generic_number l.image (l.rows.first + j) ≡ j
