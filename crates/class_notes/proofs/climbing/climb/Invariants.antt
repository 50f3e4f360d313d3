use Rattle.std.proofs.Common.{◌<◌, length}
use Rattle.type_hierarchy.specs.World.{hierarchy, Stays}
use Rattle.type_order.specs.Found.{IsLadder}
use Rattle.class_notes.proofs.climbing.climb.Given as goal

abbrev pub invariant-climb : goal.invariant-climb
invariant-climb l = record {
  top : l.top < length l.w.nodes;
  stays : Stays l.fn.w l.w;
  ladder : IsLadder (hierarchy l.fn.w) l.w.nodes l.fn.key l.keys l.top;
}
