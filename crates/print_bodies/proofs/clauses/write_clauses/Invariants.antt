use Rattle.std.proofs.Common.{◌≡◌, take, fold}
use Rattle.listing_model.specs.Bodies.{clause}
use Rattle.print_terms.specs.Rows.{under}
use Rattle.print_bodies.proofs.clauses.write_clauses.Given as goal

abbrev pub invariant-loop-clause : goal.invariant-loop-clause
invariant-loop-clause l = l.paper ≡ fold (λ q c. under q (clause l.externs l.code c)) l.initial.paper (take l.clause-index l.clauses)
