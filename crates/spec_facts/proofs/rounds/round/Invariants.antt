use Rattle.spec_facts.specs.Rounds.{RoundSo}
use Rattle.spec_facts.proofs.rounds.round.Given as goal

abbrev pub invariant-loop-place : goal.invariant-loop-place
invariant-loop-place g l =
    RoundSo l.image (g.N.Owners.facts l.names) l.distinct.places l.distinct.heads l.fn.facts l.facts l.has_found l.place
