-- What the stacks that edges state mean in a pool of types.
use Rattle.std.specs.Prelude.{◌≡◌, List, length}
use Rattle.assembly_tree.specs.declared.body.Clause.{Clause}
use Rattle.sig_pool.specs.declared.node.Node.{Node}
use Rattle.type_hierarchy.specs.Stack.{Stack}
use Rattle.stack_states.specs.declared.state.State.{State}
use Rattle.code_flow.specs.Frames.{Frame}
use Rattle.code_flow.specs.Goings.{found_by}
use Rattle.stack_states.specs.StateMeanings.{state_meant, IsStateWithin}
use Rattle.code_flow.specs.Typings as typings

-- a state of the pool that means a stack of these types
pub record IsStack (ns : List Node) (s : State) (xs : List Stack) : Type 0 where
  pub within : IsStateWithin (length ns) s
  pub is : state_meant ns s ≡ typings.stack xs

-- what the handler of a clause finds, where it catches a type
abbrev pub found_at : Frame → Clause → List Stack
found_at f c = found_by f c.kind
