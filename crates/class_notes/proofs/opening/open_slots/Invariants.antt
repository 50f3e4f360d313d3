use Rattle.std.proofs.Common.{take}
use Rattle.type_hierarchy.specs.World.{hierarchy, type_at, Stays}
use Rattle.class_notes.specs.Opening.{AddsSlots}
use Rattle.class_notes.proofs.opening.open_slots.Given as goal

abbrev pub invariant-loop-place : goal.invariant-loop-place
invariant-loop-place l = record {
  stays : Stays l.fn.w l.w;
  adds : AddsSlots l.a (hierarchy l.fn.w) l.w.nodes (type_at l.fn.w l.at) l.face (take l.place l.methods) l.fn.opens l.opens;
}
