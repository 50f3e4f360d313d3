use Rattle.std.proofs.Common.{◌+◌}
use Rattle.owner_numbers.specs.Sorting.{AreSorted, AreDone}
use Rattle.owner_numbers.proofs.classes.sort_level.Given as goal

abbrev pub invariant-loop-k : goal.invariant-loop-k
invariant-loop-k g l =
    AreSorted l.given.image.now (g.F.Owners.facts l.given.facts.now) l.level l.sorted × AreDone l.given.image.now (g.F.Owners.facts l.given.facts.now) l.sorted l.level (l.k + 1)
