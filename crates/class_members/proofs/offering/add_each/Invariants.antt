use Rattle.std.proofs.Common.{take}
use Rattle.std.specs.List.{flat_map}
use Rattle.sig_pool.specs.Replaced.{terms_at}
use Rattle.type_hierarchy.specs.World.{hierarchy, Stays}
use Rattle.class_members.specs.Facts.{Adds}
use Rattle.class_members.specs.Offers.{override_offers}
use Rattle.class_members.proofs.offering.add_each.Given as goal

abbrev pub invariant-loop-reference : goal.invariant-loop-reference
invariant-loop-reference l = record {
  stays : Stays l.initial.w l.w;
  adds : Adds l.w.nodes l.at (flat_map (override_offers (hierarchy l.initial.w) (terms_at l.initial.w.nodes l.args)) (take l.reference-index l.overrides)) l.initial.facts l.facts;
}
