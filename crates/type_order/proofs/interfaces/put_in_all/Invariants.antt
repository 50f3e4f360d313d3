use Rattle.std.proofs.Common.{map, take}
use Rattle.std.specs.Option.{option_copied, option_map}
use Rattle.sig_pool.specs.Pool.{Extends, HasAll}
use Rattle.sig_pool.specs.Replaced.{terms_at}
use Rattle.type_hierarchy.specs.Pooled.{put_in}
use Rattle.type_order.proofs.interfaces.put_in_all.Given as goal

abbrev pub invariant-loop-t : goal.invariant-loop-t
invariant-loop-t l = record {
  ids : HasAll l.pool l.ids (map (put_in (option_map (terms_at l.initial.pool) (option_copied l.args))) (take l.t-index l.types));
  extends : Extends l.initial.pool l.pool;
}
