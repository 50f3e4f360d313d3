use Rattle.std.proofs.Common.{take}
use Rattle.std.specs.List.{flat_map}
use Rattle.type_hierarchy.specs.World.{hierarchy, type_at, Stays}
use Rattle.class_members.specs.Facts.{Adds}
use Rattle.class_members.specs.Offers.{overrides_in}
use Rattle.class_notes.proofs.reading.read_overrides.Given as goal

abbrev pub invariant-loop-face : goal.invariant-loop-face
invariant-loop-face l = record {
  stays : Stays l.initial.w l.w;
  adds : Adds l.w.nodes l.at (flat_map (λ k. overrides_in l.a (hierarchy l.initial.w) (type_at l.initial.w k)) (take l.face-index l.faces)) l.initial.facts l.facts;
}
