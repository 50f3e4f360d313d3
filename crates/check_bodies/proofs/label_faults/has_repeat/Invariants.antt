use Rattle.std.proofs.Common.{◌≡◌, ℕ, ◌-◌, List, length, map}
use Rattle.std.specs.Prelude.{None}
use Rattle.source_syntax.proofs.NamingLemmas.{Found}
use Rattle.check_bodies.proofs.label_faults.has_repeat.Given as goal

abbrev pub invariant-loop-k : goal.invariant-loop-k
invariant-loop-k l = (text : ℕ → List ℕ) (tokens : List ℕ) → l.names ≡ map text tokens → Found text tokens l.k None

abbrev pub decreases-loop-k : goal.decreases-loop-k
decreases-loop-k l = length l.names - l.k
