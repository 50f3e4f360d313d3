use Rattle.std.proofs.Common.{◌≡◌, drop}
use Rattle.code_flow.specs.Marks.{marked_bounds}
use Rattle.code_flow.proofs.guarding.mark_bounds.Given as goal

abbrev pub invariant-loop-clause : goal.invariant-loop-clause
invariant-loop-clause l = marked_bounds l.marks.items (drop l.clause-index l.clauses) ≡ marked_bounds l.initial.marks.items l.clauses
