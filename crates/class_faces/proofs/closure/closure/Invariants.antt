use Rattle.type_hierarchy.specs.World.{hierarchy, Stays}
use Rattle.class_faces.proofs.Walking.{Walk}
use Rattle.class_faces.proofs.closure.closure.Given as goal

abbrev pub invariant-steps : goal.invariant-steps
invariant-steps l = record {
  walk : Walk (hierarchy l.initial.w) l.initial.w.nodes l.w.nodes l.from l.queue l.done;
  stays : Stays l.initial.w l.w;
}
