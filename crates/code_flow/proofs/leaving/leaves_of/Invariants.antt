use Rattle.std.proofs.Common.{◌≡◌, ◌++◌, drop}
use Rattle.code_flow.specs.GoingTests.{leaves_from}
use Rattle.code_flow.proofs.ExitLemmas.{LowLeaves}
use Rattle.code_flow.proofs.leaving.leaves_of.Given as goal

abbrev pub invariant-loop-ins : goal.invariant-loop-ins
invariant-loop-ins l = (l.all ++ leaves_from l.at (drop l.ins-index l.code) ≡ leaves_from 0 l.code) × (l.at ≡ l.ins-index) × LowLeaves l.all l.starts.items l.at
