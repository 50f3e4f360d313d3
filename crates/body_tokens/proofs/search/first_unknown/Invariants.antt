use Rattle.body_tokens.specs.Tokens.{KnownTo}
use Rattle.body_tokens.proofs.search.first_unknown.Given as goal

abbrev pub invariant-loop-row : goal.invariant-loop-row
invariant-loop-row l = KnownTo l.image l.row
