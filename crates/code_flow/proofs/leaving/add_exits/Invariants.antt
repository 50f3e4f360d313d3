use Rattle.std.proofs.Common.{◌≡◌, ◌++◌, take}
use Rattle.std.specs.List.{flat_map}
use Rattle.code_flow.specs.GoingTests.{on_behind}
use Rattle.code_flow.proofs.leaving.add_exits.Given as goal

abbrev pub invariant-loop-leave : goal.invariant-loop-leave
invariant-loop-leave l = l.targets.items ≡ l.initial.targets.items ++ flat_map (on_behind l.clauses l.clause.place l.clause.spans) (take l.leave-index l.leaves)
