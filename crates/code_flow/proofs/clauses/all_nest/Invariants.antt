use Rattle.std.proofs.Common.{◌≡◌, drop, length}
use Rattle.code_flow.specs.BlockTests.{are_nested}
use Rattle.code_flow.proofs.clauses.all_nest.Given as goal

abbrev pub invariant-loop-rest : goal.invariant-loop-rest
invariant-loop-rest l = (are_nested l.clauses ≡ are_nested l.rest) × (l.rest ≡ drop l.k l.clauses)

abbrev pub decreases-loop-rest : goal.decreases-loop-rest
decreases-loop-rest l = length l.rest
