use Rattle.std.proofs.Common.{◌≡◌, ℕ, ◌-◌, get_or, length}
use Rattle.code_flow.specs.Regions.{no_region}
use Rattle.code_flow.proofs.clauses.grow_to.Given as goal

abbrev pub invariant-loop-alloc : goal.invariant-loop-alloc
invariant-loop-alloc l = (r : ℕ) → get_or l.regions.items r no_region ≡ get_or l.initial.regions.items r no_region

abbrev pub decreases-loop-alloc : goal.decreases-loop-alloc
decreases-loop-alloc l = l.count - length l.regions.items
