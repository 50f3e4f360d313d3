use Rattle.std.proofs.Common.{◌≡◌, ◌≤◌, length}
use Rattle.code_flow.proofs.RegionLemmas.{LowFrom}
use Rattle.code_flow.proofs.clauses.lowest_of.Given as goal

abbrev pub invariant-loop-k : goal.invariant-loop-k
invariant-loop-k l = record {
  from : LowFrom l.clauses l.lowest.items l.least l.k;
  count : length l.lowest.items ≡ length l.clauses;
  low : l.k ≤ length l.clauses;
}

abbrev pub decreases-loop-k : goal.decreases-loop-k
decreases-loop-k l = l.k
