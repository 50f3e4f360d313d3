use Rattle.std.proofs.Common.{◌≡◌, ◌++◌, take}
use Rattle.code_flow.specs.Regions.{guards_among}
use Rattle.code_flow.proofs.guarding.add_guards.Given as goal

abbrev pub invariant-loop-clause : goal.invariant-loop-clause
invariant-loop-clause l = l.goings ≡ l.initial.goings ++ guards_among l.k (take l.clause-index l.placed)
