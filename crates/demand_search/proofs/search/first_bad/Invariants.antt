use Rattle.std.proofs.Common.{◌<◌, ℕ}
use Rattle.demand_search.proofs.search.first_bad.Given as goal

abbrev pub invariant-loop-table : goal.invariant-loop-table
invariant-loop-table g l = (t r : ℕ) → t < l.table → g.D.Demand.meets l.demand t r
