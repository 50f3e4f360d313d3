use Rattle.std.proofs.Common.{ℕ, ◌<◌, ◌≤◌}
use Rattle.image_model.specs.Columns.{param_sequence}
use Rattle.image_model.specs.Rows.{first_param}
use Rattle.value_demands.proofs.params.params_fit.Given as goal

abbrev pub invariant-loop-k : goal.invariant-loop-k
invariant-loop-k l = (j : ℕ) → first_param l.image l.method ≤ j → j < l.k → param_sequence l.image j ≤ l.most
