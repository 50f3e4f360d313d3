use Rattle.std.proofs.Common.{◌<◌, length}
use Rattle.sig_pool.specs.Pool.{Extends}
use Rattle.sig_pool.specs.Terms.{term_of}
use Rattle.type_hierarchy.specs.Tables.{hierarchy_in}
use Rattle.type_order.specs.Found.{Knows}
use Rattle.type_order.proofs.LedLemmas.{Climbs}
use Rattle.type_order.proofs.above.is_led_by_chain.Given as goal

abbrev pub invariant-climb : goal.invariant-climb
invariant-climb l = record {
  at : l.at < length l.pool;
  extends : Extends l.fn.pool l.pool;
  known : Knows (hierarchy_in l.tables) l.pool l.found;
  climbs : Climbs (hierarchy_in l.tables) (term_of l.fn.pool l.fn.a) (term_of l.pool l.at) (term_of l.fn.pool l.fn.b);
}
