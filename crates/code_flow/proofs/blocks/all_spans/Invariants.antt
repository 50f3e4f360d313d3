use Rattle.std.proofs.Common.{◌≡◌, map, take}
use Rattle.code_flow.specs.BlockTests.{spans_of}
use Rattle.code_flow.proofs.blocks.all_spans.Given as goal

abbrev pub invariant-loop-clause : goal.invariant-loop-clause
invariant-loop-clause l = l.all ≡ map spans_of (take l.clause-index l.clauses)
