use Rattle.std.proofs.Common.{◌≡◌, drop, take}
use Rattle.stack_states.specs.Chains.{values_of}
use Rattle.stack_states.proofs.stack.topmost.Given as goal

abbrev pub invariant-loop : goal.invariant-loop
invariant-loop l = (values_of l.rest ≡ drop l.counter (values_of l.link)) × (l.values.items ≡ take l.counter (values_of l.link))
