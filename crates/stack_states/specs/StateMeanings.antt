-- What the states of the code mean in a pool of types.
use Rattle.std.specs.Prelude.{◌≡◌, ℕ, Bool, true, false, ◌<◌, List, [], length, map, get_or, slice_get, Option, None, Some}
use Rattle.std.specs.List.{All}
use Rattle.sig_pool.specs.declared.node.Node.{Node}
use Rattle.type_hierarchy.specs.declared.stack_type.StackType.{StackType}
use Rattle.type_hierarchy.specs.declared.stack_type.StackType.TheVariants.{Bad}
use Rattle.type_hierarchy.specs.Hierarchy.{Hierarchy}
use Rattle.type_order.specs.Joining.{JoinsAs}
use Rattle.stack_rows.specs.RowMeanings.{stack_meant, IsStackWithin}
use Rattle.code_flow.specs.Typings as typings
use Rattle.stack_states.specs.Meetings.{IsMeeting, IsNewMeeting}
use Rattle.stack_states.specs.declared.state.State.{State}
use Rattle.stack_states.specs.declared.state.State.TheVariants.{Unreached, Stack, Clash}

abbrev pub state_meant : List Node → State → typings.State
state_meant ns Unreached = typings.unreached
state_meant ns (Stack s) = typings.stack (stack_meant ns s)
state_meant ns Clash = typings.clash

abbrev pub is_unreached : State → Bool
is_unreached Unreached = true
is_unreached (Stack s) = false
is_unreached Clash = false

-- the keys in it are ones of the pool
abbrev pub IsStateWithin : ℕ → State → Type 0
IsStateWithin n Unreached = Unit {0}
IsStateWithin n (Stack s) = IsStackWithin n s
IsStateWithin n Clash = Unit {0}

-- how many values are on the stack
abbrev pub state_depth : State → ℕ
state_depth Unreached = 0
state_depth (Stack s) = length s
state_depth Clash = 0

abbrev pub depth_or_none : Option State → ℕ
depth_or_none None = 0
depth_or_none (Some x) = state_depth x

abbrev pub state_or_none : List Node → Option State → typings.State
state_or_none ns None = typings.unreached
state_or_none ns (Some x) = state_meant ns x

-- the typing that a list of states means
abbrev pub typing_of : List Node → List State → typings.Typing
typing_of ns states k = state_or_none ns (slice_get states k)

-- ---- where two meet

-- the values of a stack of the pool `ms` mean the joins of those of two others in the pool `ns`
pub record AllJoinAs (w : Hierarchy) (ns : List Node) (s t : List StackType) (ms : List Node) (j : List StackType) : Type 0 where
  pub depth : length j ≡ length s
  pub each : (k : ℕ) → k < length j → JoinsAs w ns (get_or s k Bad) (get_or t k Bad) ms (get_or j k Bad)

abbrev pub MeetsAs : Hierarchy → List Node → State → State → List Node → Option State → Type 0
MeetsAs w ns x y ms None = IsMeeting w (state_meant ns x) (state_meant ns y) (state_meant ns x)
MeetsAs w ns x y ms (Some z) = IsStateWithin (length ms) z × IsNewMeeting w (state_meant ns x) (state_meant ns y) (state_meant ms z)
