use Rattle.std.proofs.Common.{◌≡◌, ℕ, ◌<◌, ◌≤◌, Some}
use Rattle.owner_numbers.specs.Terms.{level_at}
use Rattle.owner_numbers.proofs.levels.deepest.Given as goal

abbrev pub invariant-loop-k : goal.invariant-loop-k
invariant-loop-k g l = (row d : ℕ) → 0 < row → row ≤ l.k → level_at (g.F.Owners.facts l.facts) row ≡ Some d → d ≤ l.deepest
