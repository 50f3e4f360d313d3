use Rattle.std.proofs.Common.{ℕ, ◌+◌, ◌<◌}
use Rattle.std.specs.Prelude.{Contains}
use Rattle.image_model.specs.Columns.{semantics_method}
use Rattle.image_model.specs.Rows.{methods_of}
use Rattle.member_demands.proofs.accessors.are_methods_of.Given as goal

abbrev pub invariant-loop-k : goal.invariant-loop-k
invariant-loop-k l = (j : ℕ) → j < l.k → Contains (methods_of l.image l.type_row) (semantics_method l.image (l.rows.first + j))
