use Rattle.std.proofs.Common.{◌≡◌, ◌-◌}
use Rattle.std.specs.List.{range_with_len}
use Rattle.std.specs.Prelude.{sum_by}
use Rattle.image_weights.proofs.rows.charge_rows.Given as goal

abbrev pub invariant-loop-k : goal.invariant-loop-k
invariant-loop-k g l = l.left ≡ l.initial.left - sum_by (g.C.Charges.weight l.each) (range_with_len l.rows.first l.k)
