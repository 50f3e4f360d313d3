use Rattle.std.proofs.Common.{◌-◌, cond, nat_eq, length}
use Rattle.image_weights.specs.RowWeights.{override_row}
use Rattle.image_weights.proofs.Overrides.{Taken}
use Rattle.image_weights.proofs.override_rows.charge_overrides.Given as goal

abbrev pub invariant-loop-at : goal.invariant-loop-at
invariant-loop-at g l =
    Taken l.source.image.now l.chains l.row (override_row l.source.image.now (g.W.RowWeights.told l.source.weights.now)) l.initial.left l.at l.left

abbrev pub decreases-loop-at : goal.decreases-loop-at
decreases-loop-at g l = cond (nat_eq l.at 0) 0 (length l.chains - l.at)
