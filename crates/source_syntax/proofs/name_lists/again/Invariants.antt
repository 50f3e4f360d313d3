use Rattle.std.proofs.Common.{length, ◌-◌, ◌≡◌, ℕ, List, ◌≤◌, map}
use Rattle.source_syntax.proofs.NamingLemmas.{Found}
use Rattle.source_syntax.proofs.name_lists.again.Given as goal

abbrev pub invariant-loop-k : goal.invariant-loop-k
invariant-loop-k l = (text : ℕ → List ℕ) → l.names ≡ map text l.tokens → Found text l.tokens l.k l.found

abbrev pub decreases-loop-k : goal.decreases-loop-k
decreases-loop-k l = length l.tokens - l.k
