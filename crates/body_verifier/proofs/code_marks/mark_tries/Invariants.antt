use Rattle.std.proofs.Common.{◌≡◌, drop}
use Rattle.body_verifier.specs.CodeMarks.{marked_tries}
use Rattle.body_verifier.proofs.code_marks.mark_tries.Given as goal

abbrev pub invariant-loop-clause : goal.invariant-loop-clause
invariant-loop-clause l = marked_tries l.marks.items (drop l.clause-index l.clauses) ≡ marked_tries l.initial.marks.items l.clauses
