use Rattle.std.proofs.Common.{ℕ, ◌-◌, ◌<◌, ◌≤◌, length}
use Rattle.section_map.specs.Steps.{from_at}
use Rattle.section_map.proofs.step.reached.Given as goal

abbrev pub invariant-loop-low : goal.invariant-loop-low
invariant-loop-low l = record {
  ordered : l.low ≤ l.high;
  within : l.high ≤ length l.steps;
  below : (k : ℕ) → k < l.low → from_at l.steps k ≤ l.address;
  above : (k : ℕ) → l.high ≤ k → k < length l.steps → l.address < from_at l.steps k;
}

abbrev pub decreases-loop-low : goal.decreases-loop-low
decreases-loop-low l = l.high - l.low
