use Rattle.std.proofs.Common.{◌≡◌, ◌++◌, map, take}
use Rattle.code_flow.specs.declared.goings.Carried.TheVariants as carries
use Rattle.code_flow.specs.GoingTests.{going}
use Rattle.code_flow.proofs.leaving.add_targets.Given as goal

abbrev pub invariant-loop-to : goal.invariant-loop-to
invariant-loop-to l = l.goings ≡ l.initial.goings ++ map (going carries.Nothing) (take l.to-index l.targets)
