use Rattle.std.proofs.Common.{◌≡◌, ℕ, ◌<◌, false, get_or}
use Rattle.body_verifier.proofs.judging.first_true.Given as goal

abbrev pub invariant-loop-test : goal.invariant-loop-test
invariant-loop-test l = (l.number ≡ l.test-index) × ((k : ℕ) → k < l.test-index → get_or l.tests k false ≡ false)
