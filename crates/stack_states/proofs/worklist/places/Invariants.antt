use Rattle.std.proofs.Common.{◌≡◌, ℕ, ◌<◌, length, get_or}
use Rattle.stack_states.proofs.worklist.places.Given as goal

abbrev pub invariant-loop-k : goal.invariant-loop-k
invariant-loop-k l = (length l.numbers.items ≡ l.k) × ((j : ℕ) → j < l.k → get_or l.numbers.items j 0 ≡ j)
