use Rattle.std.proofs.Common.{◌+◌, ◌*◌, nat_eq, map, take}
use Rattle.indexmap.specs.IndexMap.{get, index_map_len}
use Rattle.type_terms.specs.Depth.{largest}
use Rattle.sig_pool.specs.Pool.{IsPool, Extends, HasAll}
use Rattle.sig_pool.specs.Replaced.{replaced, terms_at}
use Rattle.sig_pool.specs.Visits.{IsDone, Visits}
use Rattle.sig_pool.proofs.pool.SigPool.+replace.Given as goal

abbrev pub decreases-replace : goal.decreases-replace
decreases-replace l = 2 * l.id + 1

abbrev pub decreases-replace_all : goal.decreases-replace_all
decreases-replace_all l = 2 * largest (map (λ k. k + 1) l.ids.now)

abbrev pub invariant-replace_all-loop-id : goal.invariant-replace_all-loop-id
invariant-replace_all-loop-id l = record {
  pool : IsPool l.self;
  extends : Extends l.initial.self l.self;
  ids : HasAll l.self l.replaced (map (replaced (terms_at l.initial.self l.classes) (terms_at l.initial.self l.methods)) (terms_at l.initial.self (take l.id-index l.ids)));
  done : IsDone l.self l.classes l.methods (get nat_eq l.done);
  visits : Visits l.initial.self l.self l.ids (get nat_eq l.initial.done) (get nat_eq l.done) (index_map_len l.initial.done) (index_map_len l.done);
}
