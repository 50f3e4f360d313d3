use Rattle.std.proofs.Common.{take}
use Rattle.type_hierarchy.specs.World.{hierarchy}
use Rattle.class_faces.specs.Marked.{is_face, ArePassing}
use Rattle.class_faces.proofs.faces.interfaces_among.Given as goal

abbrev pub invariant-loop-key : goal.invariant-loop-key
invariant-loop-key l = ArePassing (is_face l.a (hierarchy l.w)) l.w.nodes (take l.key-index l.keys) l.passing
