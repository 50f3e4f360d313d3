use Rattle.std.proofs.Common.{take}
use Rattle.std.specs.List.{flat_map}
use Rattle.sig_pool.specs.Replaced.{terms_at}
use Rattle.type_hierarchy.specs.World.{hierarchy, Stays}
use Rattle.class_members.specs.Facts.{Adds}
use Rattle.class_members.specs.Offers.{offers_by}
use Rattle.class_members.proofs.offering.add_methods.Given as goal

abbrev pub invariant-loop-method : goal.invariant-loop-method
invariant-loop-method l = record {
  stays : Stays l.initial.w l.w;
  adds : Adds l.w.nodes l.at (flat_map (offers_by (hierarchy l.initial.w) (terms_at l.initial.w.nodes l.args)) (take l.method-index l.methods)) l.initial.facts l.facts;
}
