use Rattle.std.proofs.Common.{ℕ, ◌<◌, ◌≤◌, get_or}
use Rattle.type_tables.specs.Walks.{StepsTo}
use Rattle.type_tables.proofs.cyclic.never_rises.Given as goal

abbrev pub invariant-loop-i : goal.invariant-loop-i
invariant-loop-i l = (i j : ℕ) → i < l.i → StepsTo l.steps i j → get_or l.numbers j 0 ≤ get_or l.numbers i 0
