use Rattle.std.proofs.Common.{take}
use Rattle.type_hierarchy.specs.World.{hierarchy}
use Rattle.class_faces.specs.Marked.{is_overriding, ArePassing}
use Rattle.class_faces.proofs.faces.overriding_among.Given as goal

abbrev pub invariant-loop-key : goal.invariant-loop-key
invariant-loop-key l = ArePassing (is_overriding l.a (hierarchy l.w)) l.w.nodes (take l.key-index l.keys) l.passing
