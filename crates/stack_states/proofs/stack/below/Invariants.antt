use Rattle.std.proofs.Common.{◌≡◌, drop}
use Rattle.stack_states.specs.Chains.{values_of}
use Rattle.stack_states.proofs.stack.below.Given as goal

abbrev pub invariant-loop : goal.invariant-loop
invariant-loop l = values_of l.rest ≡ drop l.counter (values_of l.link)
