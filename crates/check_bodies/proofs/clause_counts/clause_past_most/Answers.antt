use Rattle.std.proofs.Common.{◌∙◌, sym}
use Rattle.check_bodies.proofs.ClauseCountLemmas.{none_past, one_past}
use Rattle.check_bodies.proofs.clause_counts.clause_past_most.Goals as goal

pub returns-in-Ok : goal.returns-in-Ok
returns-in-Ok c f e = none_past f c.in-Ok.field-0 (sym c.in-Ok.is ∙ c.clauses_left.ensures f e)

pub returns-in-Err : goal.returns-in-Err
returns-in-Err c f e = one_past f c.in-Err.token (sym c.in-Err.is ∙ c.clauses_left.ensures f e)
