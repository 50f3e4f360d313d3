use Rattle.std.proofs.Common.{◌≡◌, ◌++◌, map, take}
use Rattle.code_flow.specs.GoingTests.{leave_to}
use Rattle.code_flow.proofs.leaving.add_leaves.Given as goal

abbrev pub invariant-loop-target : goal.invariant-loop-target
invariant-loop-target l = l.leaves ≡ l.initial.leaves ++ map (leave_to l.at) (take l.target-index l.targets)
