use Rattle.std.proofs.Common.{◌≡◌, List, ◌++◌, drop}
use Rattle.image_members.specs.Ordered.{IsOrdered}
use Rattle.image_members.specs.declared.classes.Class.{Class}
use Rattle.image_members.proofs.order.in_order.Given as goal

abbrev pub invariant-loop-class : goal.invariant-loop-class
invariant-loop-class l = (done : List Class) × ((l.classes ≡ done ++ drop l.class-index l.classes) × IsOrdered l.a done l.ordered)
