use Rattle.std.proofs.Common.{◌≡◌, drop}
use Rattle.code_flow.specs.Leaving.{goes_behind}
use Rattle.code_flow.proofs.leaving.goes_behind.Given as goal

abbrev pub invariant-loop-clause : goal.invariant-loop-clause
invariant-loop-clause l = goes_behind l.place l.leave (drop l.clause-index l.placed) ≡ goes_behind l.place l.leave l.placed
