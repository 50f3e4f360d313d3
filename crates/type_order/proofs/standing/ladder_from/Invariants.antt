use Rattle.std.proofs.Common.{◌<◌, length}
use Rattle.sig_pool.specs.Pool.{Extends}
use Rattle.type_hierarchy.specs.Tables.{hierarchy_in}
use Rattle.type_order.specs.Found.{IsLadder, Knows}
use Rattle.type_order.proofs.standing.ladder_from.Given as goal

abbrev pub invariant-climb : goal.invariant-climb
invariant-climb l = record {
  top : l.top < length l.pool;
  extends : Extends l.fn.pool l.pool;
  known : Knows (hierarchy_in l.tables) l.pool l.found;
  ladder : IsLadder (hierarchy_in l.tables) l.pool l.fn.id l.ids l.top;
}
