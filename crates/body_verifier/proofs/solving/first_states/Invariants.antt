use Rattle.std.proofs.Common.{◌≡◌, ◌-◌, ◌≤◌, [], ◌∷◌, replicate}
use Rattle.stack_states.specs.declared.state.State.TheVariants.{Unreached, Stack}
use Rattle.body_verifier.proofs.solving.first_states.Given as goal

abbrev pub invariant-loop : goal.invariant-loop
invariant-loop l = (1 ≤ l.counter) × (l.states ≡ Stack [] ∷ replicate (l.counter - 1) Unreached)
