use Rattle.std.proofs.Common.{◌≡◌, length}
use Rattle.body_verifier.specs.Finding.{typedef_by}
use Rattle.body_verifier.proofs.finding.inner_type.Given as goal

abbrev pub invariant-loop-rest : goal.invariant-loop-rest
invariant-loop-rest l = typedef_by l.places l.outer ≡ typedef_by l.rest l.inner

abbrev pub decreases-loop-rest : goal.decreases-loop-rest
decreases-loop-rest l = length l.rest
