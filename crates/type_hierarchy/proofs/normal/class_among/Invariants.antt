use Rattle.std.proofs.Common.{◌≡◌, drop}
use Rattle.std.specs.List.{find}
use Rattle.type_hierarchy.specs.Normal.{has_class}
use Rattle.type_hierarchy.proofs.normal.class_among.Given as goal

abbrev pub invariant-loop-prim : goal.invariant-loop-prim
invariant-loop-prim l = find (has_class l.path) (drop l.prim-index l.prims) ≡ find (has_class l.path) l.prims
