use Rattle.std.proofs.Common.{◌<◌, ℕ}
use Rattle.demand_search.proofs.search.first_bad_of.Given as goal

abbrev pub invariant-loop-row : goal.invariant-loop-row
invariant-loop-row g l = (row : ℕ) → row < l.row → g.D.Demand.meets l.demand l.table row
