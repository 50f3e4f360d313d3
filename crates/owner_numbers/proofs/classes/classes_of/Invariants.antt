use Rattle.owner_numbers.specs.Sorting.{AreSorted, AreDone}
use Rattle.owner_numbers.proofs.classes.classes_of.Given as goal

abbrev pub invariant-loop-level : goal.invariant-loop-level
invariant-loop-level g l =
    AreSorted l.given.image.now (g.F.Owners.facts l.given.facts.now) l.level l.sorted × AreDone l.given.image.now (g.F.Owners.facts l.given.facts.now) l.sorted l.level 1
