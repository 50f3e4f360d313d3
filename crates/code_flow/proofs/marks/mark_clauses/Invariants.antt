use Rattle.std.proofs.Common.{◌≡◌, drop}
use Rattle.code_flow.specs.Marks.{marked_clauses}
use Rattle.code_flow.proofs.marks.mark_clauses.Given as goal

abbrev pub invariant-loop-clause : goal.invariant-loop-clause
invariant-loop-clause l = marked_clauses l.marks.items (drop l.clause-index l.clauses) ≡ marked_clauses l.initial.marks.items l.clauses
