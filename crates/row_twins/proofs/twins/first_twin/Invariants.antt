use Rattle.std.proofs.Common.{ℕ, ◌+◌, ◌<◌, ◌≤◌}
use Rattle.row_twins.specs.Twins.{AreSeen, HasTwin}
use Rattle.row_twins.proofs.twins.first_twin.Given as goal

abbrev pub invariant-loop-k : goal.invariant-loop-k
invariant-loop-k g l =
    AreSeen (g.L.Likeness.rows l.rows) (g.L.Likeness.hashed l.rows) (l.k + 1) l.seen × ((row : ℕ) → 0 < row → row ≤ l.k → HasTwin (g.L.Likeness.alike l.rows) row → ⊥)
