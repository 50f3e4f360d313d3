use Rattle.std.proofs.Common.{ℕ, ◌+◌, ◌<◌}
use Rattle.std.specs.Prelude.{Contains}
use Rattle.image_model.specs.Columns.{semantics_kind}
use Rattle.member_demands.proofs.kinds.have_kinds.Given as goal

abbrev pub invariant-loop-k : goal.invariant-loop-k
invariant-loop-k l = (j : ℕ) → j < l.k → Contains l.kinds (semantics_kind l.image (l.rows.first + j))
