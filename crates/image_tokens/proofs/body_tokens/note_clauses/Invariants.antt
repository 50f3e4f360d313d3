use Rattle.std.proofs.Common.{drop}
use Rattle.image_tokens.specs.NamesWeight.{clause_names}
use Rattle.image_tokens.specs.BodyTokens.{HasClauseToken}
use Rattle.image_tokens.specs.Writable.{IsClauseWritable}
use Rattle.image_tokens.proofs.StepLemmas.{AreDoneTo}
use Rattle.image_tokens.proofs.body_tokens.note_clauses.Given as goal

abbrev pub invariant-loop-clause : goal.invariant-loop-clause
invariant-loop-clause l = AreDoneTo clause_names IsClauseWritable HasClauseToken l.initial.refs l.refs l.clauses (drop l.clause-index l.clauses)
