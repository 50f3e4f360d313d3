-- What one edge changes.
use Rattle.std.proofs.Common.{◌≡◌, ◌≢◌, ◌⊎◌, inl, inr, refl, sym, ◌∙◌, ap, subst, ℕ, ◌<◌, arith, List, length, Some}
use Rattle.std.specs.Prelude.{slice_get, slice_set}
use Rattle.sig_pool.specs.declared.node.Node.{Node}
use Rattle.type_hierarchy.specs.Hierarchy.{Hierarchy}
use Rattle.stack_states.specs.declared.state.State.{State}
use Rattle.stack_states.specs.Meetings.{IsNewMeeting}
use Rattle.stack_states.specs.StateMeanings.{state_meant, state_or_none, MeetsAs, IsStateWithin, typing_of}
use Rattle.code_flow.specs.Typings as typings
use Rattle.stack_states.specs.Waiting.{Waiting, pushed}
use Rattle.body_verifier.specs.Ways.{Raises, rises, stays}

pub raised : (w : Hierarchy) (ns : List Node) (states : List State) (list : Waiting) (t : ℕ) (comes : State) (ms : List Node) (x met : State) (after : List State) (later : Waiting)
    → slice_get states t ≡ Some x → MeetsAs w ns x comes ms (Some met) → after ≡ slice_set states t met → later ≡ pushed list t → Raises w ns states list t comes ms after later
raised w ns states list t comes ms x met after later at h is waits =
    let P : typings.State → Type 0 = λ (y : typings.State). IsNewMeeting w y (state_meant ns comes) (state_meant ms met) in
    rises met is waits h.0 (subst P (sym (ap (state_or_none ns) at)) h.1)
