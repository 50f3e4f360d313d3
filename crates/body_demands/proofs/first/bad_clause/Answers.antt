use Rattle.std.proofs.Common.{ℕ, List, subst}
use Rattle.std.specs.Prelude.{IfSome, IfNone}
use Rattle.demand_search.specs.Search.{IsFirstBad}
use Rattle.image_model.specs.Bodies.{HasClauses}
use Rattle.body_demands.proofs.first.bad_clause.Goals as goal

pub returns-clause-bad : goal.returns-clause-bad
returns-clause-bad c =
    subst (λ (image : List ℕ). IfSome c.first_bad.result (λ at. IsFirstBad (HasClauses image) at.0 at.1)) c.new-demand.ensures c.first_bad.ensures.bad

pub returns-clause-none : goal.returns-clause-none
returns-clause-none c =
    subst (λ (image : List ℕ). IfNone c.first_bad.result ((table row : ℕ) → HasClauses image table row)) c.new-demand.ensures c.first_bad.ensures.none
