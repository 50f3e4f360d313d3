use Rattle.std.proofs.Common.{take}
use Rattle.type_hierarchy.specs.World.{hierarchy, type_at, Stays}
use Rattle.class_notes.specs.Opening.{AreStill}
use Rattle.class_notes.proofs.opening.still_open.Given as goal

abbrev pub invariant-loop-open : goal.invariant-loop-open
invariant-loop-open l = record {
  stays : Stays l.initial.w l.w;
  still : AreStill l.a (hierarchy l.initial.w) l.initial.w.nodes (type_at l.initial.w l.at) (take l.open-index l.opens) l.left;
}
