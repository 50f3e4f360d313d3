use Rattle.std.proofs.Common.{drop}
use Rattle.std.specs.List.{sum_by}
use Rattle.assembly_tree.specs.Nesting.{types_in}
use Rattle.image_members.proofs.ClassLemmas.{AddsTo}
use Rattle.image_members.proofs.classes.+add_classes.Given as goal

abbrev pub invariant-loop-of : goal.invariant-loop-of
invariant-loop-of l = AddsTo l.encloser l.initial.into l.into l.types (drop l.of-index l.types)

abbrev pub decreases-add_classes : goal.decreases-add_classes
decreases-add_classes l = sum_by types_in l.types.now
