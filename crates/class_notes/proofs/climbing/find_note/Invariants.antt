use Rattle.std.proofs.Common.{◌<◌, length}
use Rattle.type_hierarchy.specs.World.{hierarchy, Stays}
use Rattle.type_order.specs.Found.{IsLadder}
use Rattle.class_notes.specs.Notes.{IsNoted, Knows}
use Rattle.class_notes.proofs.climbing.find_note.Given as goal

abbrev pub invariant-loop-below : goal.invariant-loop-below
invariant-loop-below l = record {
  top : l.top < length l.w.nodes;
  stays : Stays l.fn.w l.w;
  ladder : IsLadder (hierarchy l.fn.w) l.w.nodes l.fn.key l.keys l.top;
  knows : Knows l.a (hierarchy l.fn.w) l.w.nodes l.notes;
  noted : IsNoted l.notes l.top;
}

abbrev pub decreases-loop-below : goal.decreases-loop-below
decreases-loop-below l = length l.keys
