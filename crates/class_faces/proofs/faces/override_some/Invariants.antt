use Rattle.std.proofs.Common.{◌≡◌, false, take}
use Rattle.std.specs.List.{list_any}
use Rattle.class_faces.specs.Marked.{overrides_some}
use Rattle.class_faces.proofs.faces.override_some.Given as goal

abbrev pub invariant-loop-method : goal.invariant-loop-method
invariant-loop-method l = list_any overrides_some (take l.method-index l.methods) ≡ false
