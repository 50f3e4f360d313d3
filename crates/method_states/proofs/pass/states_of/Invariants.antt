use Rattle.method_states.specs.States.{AreStatesTo, AreSeen, AreNamedTo}
use Rattle.method_states.proofs.pass.states_of.Given as goal

abbrev pub invariant-loop-method : goal.invariant-loop-method
invariant-loop-method l = AreStatesTo l.image l.method l.states × AreSeen l.image l.method l.seen × AreNamedTo l.image l.method l.named
