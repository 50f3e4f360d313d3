use Rattle.std.proofs.Common.{◌≡◌, ◌++◌, take}
use Rattle.std.specs.List.{sum_by}
use Rattle.std.specs.Option.{option_copied}
use Rattle.assembly_tree.specs.Weight.{typedef_weight}
use Rattle.class_faces.specs.Paths.{classes_in, path_in}
use Rattle.class_faces.proofs.rows.+add_classes.Given as goal

abbrev pub invariant-loop-of : goal.invariant-loop-of
invariant-loop-of l = l.rows ≡ l.initial.rows ++ classes_in (path_in (option_copied l.outer)) (take l.of-index l.types)

abbrev pub decreases-add_classes : goal.decreases-add_classes
decreases-add_classes l = sum_by typedef_weight l.types.now
