use Rattle.std.proofs.Common.{◌≤◌, ◌+◌, length, take}
use Rattle.type_terms.specs.Nodes.{list_nodes}
use Rattle.sig_pool.specs.Pool.{Extends, HasAll}
use Rattle.sig_pool.proofs.pool.SigPool.+intern.Given as goal

abbrev pub invariant-intern_all-loop-t : goal.invariant-intern_all-loop-t
invariant-intern_all-loop-t l = record {
  ids : HasAll l.self l.ids (take l.t-index l.types);
  extends : Extends l.initial.self l.self;
  bound : length l.self ≤ length l.initial.self + list_nodes (take l.t-index l.types);
}
