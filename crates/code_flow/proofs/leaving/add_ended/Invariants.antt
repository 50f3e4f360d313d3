use Rattle.std.proofs.Common.{List, take}
use Rattle.code_flow.specs.declared.leaving.Leave.{Leave}
use Rattle.code_flow.specs.GoingTests.{AddsSame}
use Rattle.code_flow.specs.Leaving.{HaveExits}
use Rattle.code_flow.proofs.ExitLemmas.{ends_among}
use Rattle.code_flow.proofs.leaving.add_ended.Given as goal

abbrev pub invariant-loop-j : goal.invariant-loop-j
invariant-loop-j l = (leaves : List Leave) → HaveExits l.clauses leaves l.exits → AddsSame l.initial.goings l.goings (ends_among l.clauses leaves l.k (take l.j l.near))
