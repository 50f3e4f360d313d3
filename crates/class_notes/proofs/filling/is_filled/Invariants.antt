use Rattle.std.proofs.Common.{◌<◌, length}
use Rattle.assembly_tree.specs.declared.assembly.Assembly.{Assembly}
use Rattle.type_hierarchy.specs.World.{hierarchy, type_at, Stays}
use Rattle.class_members.specs.Facts.{HasRoom, IsWanted}
use Rattle.class_notes.specs.Reading.{HasRead}
use Rattle.class_notes.proofs.FillingLemmas.{Climbed}
use Rattle.class_notes.proofs.filling.is_filled.Given as goal

abbrev pub invariant-climb : goal.invariant-climb
invariant-climb l = record {
  at : l.at < length l.w.nodes;
  stays : Stays l.fn.w l.w;
  room : HasRoom l.wanted;
  wanted : IsWanted l.w.nodes (hierarchy l.fn.w) (type_at l.fn.w l.face) l.slot l.wanted;
  climbed : (a : Assembly) → HasRead a (hierarchy l.fn.w) l.fn.w.nodes l.facts (type_at l.fn.w l.fn.at) → Climbed a (hierarchy l.fn.w) (type_at l.fn.w l.fn.at) (type_at l.w l.at) (type_at l.fn.w l.face) l.slot;
}
