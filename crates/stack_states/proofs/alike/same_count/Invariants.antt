use Rattle.std.proofs.Common.{◌≡◌, ℕ, ◌<◌, get_or}
use Rattle.type_hierarchy.specs.declared.stack_type.StackType.TheVariants.{Bad}
use Rattle.type_hierarchy.specs.Meaning.{meant}
use Rattle.stack_states.proofs.alike.same_count.Given as goal

abbrev pub invariant-loop-k : goal.invariant-loop-k
invariant-loop-k l = (i : ℕ) → i < l.k → meant l.pool (get_or l.s i Bad) ≡ meant l.pool (get_or l.t i Bad)
