use Rattle.type_hierarchy.specs.Tables.{hierarchy_in}
use Rattle.type_order.specs.Found.{Knows}
use Rattle.type_order.proofs.StandingLemmas.{Raises}
use Rattle.type_order.proofs.standing.raised.Given as goal

abbrev pub invariant-raise : goal.invariant-raise
invariant-raise l = record {
  known : Knows (hierarchy_in l.tables) l.pool l.found;
  raises : Raises (hierarchy_in l.tables) l.fn.pool l.pool l.fn.id l.depth l.at l.standing;
}

abbrev pub decreases-raise : goal.decreases-raise
decreases-raise l = l.standing.depth
