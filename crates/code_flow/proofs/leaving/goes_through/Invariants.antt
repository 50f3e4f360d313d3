use Rattle.std.proofs.Common.{◌≡◌, drop}
use Rattle.code_flow.specs.GoingTests.{goes_through}
use Rattle.code_flow.proofs.leaving.goes_through.Given as goal

abbrev pub invariant-loop-clause : goal.invariant-loop-clause
invariant-loop-clause l = goes_through l.leave l.target (drop l.clause-index l.clauses) ≡ goes_through l.leave l.target l.clauses
