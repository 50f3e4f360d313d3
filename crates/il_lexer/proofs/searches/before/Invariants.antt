use Rattle.std.proofs.Common.{◌≡◌, ◌+◌, not, length}
use Rattle.il_lexer.specs.Runs.{front}
use Rattle.il_lexer.proofs.searches.before.Given as goal

abbrev pub invariant-loop-more : goal.invariant-loop-more
invariant-loop-more g l = record {
  front : l.at + front (λ c. not (g.K.Kind.is_kind l.kind c)) l.tail ≡ front (λ c. not (g.K.Kind.is_kind l.kind c)) l.rest;
  long : l.at + length l.tail ≡ length l.rest;
}

abbrev pub decreases-loop-more : goal.decreases-loop-more
decreases-loop-more g l = length l.tail
