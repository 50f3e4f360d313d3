use Rattle.type_hierarchy.specs.Tables.{hierarchy_in}
use Rattle.type_order.specs.Found.{Knows}
use Rattle.type_order.proofs.WalkLemmas.{Walk}
use Rattle.type_order.proofs.led.add_above.Given as goal

abbrev pub invariant-search : goal.invariant-search
invariant-search l = record {
  walk : Walk (hierarchy_in l.tables) l.fn.pool l.pool l.fn.queue l.queue l.done;
  known : Knows (hierarchy_in l.tables) l.pool l.found;
}
