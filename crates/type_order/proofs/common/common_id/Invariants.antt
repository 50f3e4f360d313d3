use Rattle.sig_pool.specs.Pool.{Extends}
use Rattle.sig_pool.specs.Terms.{term_of}
use Rattle.type_hierarchy.specs.Tables.{hierarchy_in}
use Rattle.type_order.specs.Found.{AreSides, Knows}
use Rattle.type_order.proofs.common.common_id.Given as goal

abbrev pub invariant-meet : goal.invariant-meet
invariant-meet l = record {
  known : Knows (hierarchy_in l.tables) l.pool l.found;
  extends : Extends l.fn.pool l.pool;
  sides : AreSides (hierarchy_in l.tables) l.pool (term_of l.fn.pool l.fn.a) (term_of l.fn.pool l.fn.b) l.sides;
}

abbrev pub decreases-meet : goal.decreases-meet
decreases-meet l = l.sides.depth
