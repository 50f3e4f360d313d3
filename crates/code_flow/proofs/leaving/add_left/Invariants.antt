use Rattle.std.proofs.Common.{◌≡◌, ◌++◌, map, take}
use Rattle.code_flow.specs.declared.goings.Carried.TheVariants as carries
use Rattle.code_flow.specs.GoingTests.{going, goes_through}
use Rattle.code_flow.proofs.leaving.add_left.Given as goal

abbrev pub invariant-loop-target : goal.invariant-loop-target
invariant-loop-target l = l.goings ≡ l.initial.goings ++ map (λ t. going carries.Nothing (goes_through l.k t l.clauses)) (take l.target-index l.targets)
