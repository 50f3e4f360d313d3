use Rattle.std.proofs.Common.{map, take}
use Rattle.std.specs.Option.{option_copied, option_map}
use Rattle.sig_pool.specs.Pool.{HasAll}
use Rattle.sig_pool.specs.Replaced.{terms_at}
use Rattle.type_hierarchy.specs.Normal.{normal}
use Rattle.type_hierarchy.specs.Pooled.{put_in}
use Rattle.type_hierarchy.specs.World.{hierarchy, Stays}
use Rattle.type_order.specs.Keys.{reading_of}
use Rattle.class_members.proofs.keys.types_in.Given as goal

abbrev pub invariant-loop-t : goal.invariant-loop-t
invariant-loop-t l = record {
  stays : Stays l.initial.w l.w;
  keys : HasAll l.w.nodes l.keys (map (λ t. put_in (option_map (terms_at l.initial.w.nodes) (option_copied l.args)) (normal (reading_of (hierarchy l.initial.w)) t)) (take l.t-index l.types));
}
