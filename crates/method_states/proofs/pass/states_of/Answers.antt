use Rattle.std.proofs.Common.{◌≡◌, ℕ, ◌+◌, ◌-◌, subst, arith}
use Rattle.method_states.specs.States.{AreSeen}
use Rattle.method_states.proofs.Sharing.{states_more}
use Rattle.method_states.proofs.pass.states_of.Goals as goal

pub state_of-requires-clause-seen : goal.state_of-requires-clause-seen
state_of-requires-clause-seen c =
    let e : c.loop-method.method ≡ c.loop-method.method + 1 - 1 = omega arith in
    subst (λ (n : ℕ). AreSeen c.args.image.now n c.loop-method.seen) e c.loop-method.invariant.1

pub loop-method-preserved : goal.loop-method-preserved
loop-method-preserved c = (
  rw c.in_ok-push.ensures.ok (states_more c.args.image.now c.loop-method.method c.loop-method.states c.in_ok-state.state c.loop-method.invariant.0 c.in_ok-state.ensures.state),
  c.in_ok-state.ensures.seen,
  c.in_ok-state.ensures.named,
)
