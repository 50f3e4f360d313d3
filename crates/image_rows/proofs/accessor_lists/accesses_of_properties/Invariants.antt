use Rattle.std.proofs.Common.{drop, map}
use Rattle.image_members.specs.Lists.{property_access}
use Rattle.image_rows.specs.SemanticsRows.{methods_of}
use Rattle.image_rows.proofs.AccessLemmas.{AccessesTo}
use Rattle.image_rows.proofs.accessor_lists.accesses_of_properties.Given as goal

abbrev pub invariant-loop-class : goal.invariant-loop-class
invariant-loop-class l = AccessesTo property_access l.first l.row (map methods_of l.initial.all) (map methods_of l.all) l.classes (drop l.class-index l.classes)
