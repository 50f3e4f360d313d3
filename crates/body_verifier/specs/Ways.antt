-- On the way to the least typing of a body.
use Rattle.std.specs.Prelude.{◌≡◌, ℕ, ◌+◌, ◌*◌, ◌<◌, ◌≤◌, min, true, List, [], ◌∷◌, length, slice_get, slice_set, get_or, Option, Some}
use Rattle.std.specs.List.{All, sum_by}
use Rattle.type_terms.specs.declared.term.SigType.{SigType}
use Rattle.assembly_tree.specs.declared.body.Ins.{Ins}
use Rattle.sig_pool.specs.declared.node.Node.{Node}
use Rattle.type_hierarchy.specs.Hierarchy.{Hierarchy}
use Rattle.type_hierarchy.specs.Laws.{IsGrounded, IsOrder}
use Rattle.type_hierarchy.specs.Stack.{Stack}
use Rattle.code_flow.specs.declared.goings.Carried.{Carried}
use Rattle.code_flow.specs.declared.goings.Carried.TheVariants.{Flowing, Nothing, Object, Caught}
use Rattle.code_flow.specs.declared.goings.Going.{Going}
use Rattle.stack_rows.specs.declared.row.Row.{Row}
use Rattle.stack_states.specs.declared.state.State.{State}
use Rattle.body_verifier.specs.declared.stated.Stated.{Stated}
use Rattle.code_flow.specs.Edges as edges
use Rattle.code_flow.specs.Effects.{effect}
use Rattle.code_flow.specs.Frames.{Frame}
use Rattle.code_flow.specs.Goings.{found_in}
use Rattle.code_flow.specs.Laws.{AreMonotone}
use Rattle.stack_states.specs.Meetings.{IsNewMeeting, IsMeeting}
use Rattle.body_verifier.specs.Potential.{IsLow, reached, potential, potential_at}
use Rattle.stack_rows.specs.RowMeanings.{row_meant, IsRowWithin}
use Rattle.code_flow.specs.Rows as rows
use Rattle.stack_states.specs.StateMeanings.{state_meant, IsStateWithin, typing_of}
use Rattle.code_flow.specs.Typings as typings
use Rattle.stack_states.specs.Waiting.{Waiting, has, pushed}

-- ---- typings on the way

-- each other instruction has at least what comes along the edges of `k`
abbrev pub IsSettled : Frame → typings.Typing → ℕ → Type 0
IsSettled f typing k = (t : ℕ) (c : edges.Carries) → t < length f.code → edges.Edge f k t c → typings.AtMost f.types (typings.carried f k c (typing k)) (typing t)

-- at most each solution, and settled wherever nothing waits
pub record IsOnTheWay (f : Frame) (typing : typings.Typing) (waiting : List ℕ) : Type 0 where
  pub start : typings.AtMost f.types (typings.stack []) (typing 0)
  pub below : (other : typings.Typing) → typings.IsSolution f other → typings.IsAtMost f typing other
  pub settled : (k : ℕ) → k < length f.code → (has waiting k ≡ true → ⊥) → IsSettled f typing k

-- no stack is deeper than there are instructions that are reached
abbrev pub IsShallow : Frame → typings.Typing → Type 0
IsShallow f typing = (k : ℕ) → k < length f.code → IsLow (reached typing (length f.code)) (typing k)

-- the states of a pool mean the least typing
pub record IsSolved (f : Frame) (ns : List Node) (states : List State) : Type 0 where
  pub long : length states ≡ length f.code
  pub within : All (IsStateWithin (length ns)) states
  pub least : typings.IsLeast f (typing_of ns states)

-- ---- what a check goes by

-- the frame of a body, how many types lie above one, and more than any has
pub record Setup : Type 0 where
  pub frame : Frame
  pub height : SigType → ℕ
  pub top : ℕ

pub record IsSetUp (w : Hierarchy) (at : Setup) : Type 0 where
  pub types : at.frame.types ≡ w
  pub some : 0 < length at.frame.code
  pub grounded : IsGrounded w at.height
  pub low : (t : SigType) → at.height t + 2 ≤ at.top
  pub order : IsOrder w
  pub monotone : AreMonotone at.frame

-- the states of a pool mean a typing on the way
pub record IsUnderWay (at : Setup) (ns : List Node) (states : List State) (waiting : List ℕ) : Type 0 where
  pub long : length states ≡ length at.frame.code
  pub within : All (IsStateWithin (length ns)) states
  pub way : IsOnTheWay at.frame (typing_of ns states) waiting
  pub shallow : IsShallow at.frame (typing_of ns states)

-- whatever it costs to look at an instruction, no more is left to do than before
abbrev pub HasNoMore : Setup → typings.Typing → List ℕ → typings.Typing → List ℕ → Type 0
HasNoMore at old old_waiting new new_waiting =
    (cost : ℕ → ℕ) → potential at.height at.top cost new new_waiting (length at.frame.code) ≤ potential at.height at.top cost old old_waiting (length at.frame.code)

-- ---- where stacks are no deeper than that

-- at most each solution
abbrev pub IsUnderAll : Frame → typings.Typing → Type 0
IsUnderAll f typing = (other : typings.Typing) → typings.IsSolution f other → typings.IsAtMost f typing other

-- what is known on the way has no deeper stacks
abbrev pub IsDepth : Frame → ℕ → Type 0
IsDepth f depth = (typing : typings.Typing) → IsUnderAll f typing → (k : ℕ) → k < length f.code → IsLow depth (typing k)

-- the same where stacks are no deeper than that
abbrev pub HasLessAt : ℕ → Setup → typings.Typing → List ℕ → typings.Typing → List ℕ → Type 0
HasLessAt depth at old old_waiting new new_waiting =
    (cost : ℕ → ℕ) → potential_at at.height at.top depth cost new new_waiting (length at.frame.code) ≤ potential_at at.height at.top depth cost old old_waiting (length at.frame.code)

-- the joins that one edge can take there
abbrev pub depth_charge : ℕ → Carried → ℕ
depth_charge d Flowing = d
depth_charge d Nothing = 0
depth_charge d Object = min 1 d
depth_charge d (Caught k) = min 1 d

abbrev pub depth_charges : ℕ → List Going → ℕ
depth_charges d all = sum_by (λ (g : Going). depth_charge d g.carries) all

-- `cost k` is enough for instruction `k`, if it is reached
abbrev pub IsCost : Frame → ℕ → List (List Going) → (ℕ → ℕ) → Type 0
IsCost f d all cost = (k : ℕ) (typing : typings.Typing) → k < length f.code → IsUnderAll f typing → (typing k ≡ typings.unreached → ⊥) → depth_charges d (get_or all k []) ≤ cost k

-- no two edges lead from a reached instruction to one, one that brings what it leaves and one that states a stack
abbrev pub FlowsApart : Frame → Type 0
FlowsApart f = (typing : typings.Typing) (k t : ℕ) (xs : List Stack) → k < length f.code → t < length f.code → IsUnderAll f typing → (typing k ≡ typings.unreached → ⊥)
    → edges.Edge f k t edges.flowing → edges.Edge f k t (edges.stated xs) → ⊥

-- ---- rows and edges

-- the stack after an instruction with that row
abbrev pub flows : rows.Row → typings.State → typings.State
flows r typings.unreached = typings.unreached
flows r (typings.stack s) = typings.stack (effect r s)
flows r typings.clash = typings.clash

pub record AreRows (ns : List Node) (all : List Row) (f : Frame) : Type 0 where
  pub long : length all ≡ length f.code
  pub within : All (IsRowWithin (length ns)) all
  pub are : (k : ℕ) (r : Row) (i : Ins) → slice_get all k ≡ Some r → slice_get f.code k ≡ Some i → row_meant ns r ≡ rows.row_of f k i

-- what comes along an edge, where `after` is what the instruction leaves
abbrev pub brought : Stated → Carried → State → State
brought s Flowing after = after
brought s Nothing after = s.nothing
brought s Object after = s.object
brought s (Caught k) after = get_or s.caught k s.nothing

-- the stacks that edges can state
pub record AreStated (ns : List Node) (s : Stated) : Type 0 where
  pub nothing : IsStateWithin (length ns) s.nothing
  pub object : IsStateWithin (length ns) s.object
  pub caught : All (IsStateWithin (length ns)) s.caught
  pub no_value : IsLow 0 (state_meant ns s.nothing)
  pub one_value : IsLow 1 (state_meant ns s.object)
  pub one_caught : (k : ℕ) → IsLow 1 (state_meant ns (get_or s.caught k s.nothing))

-- the stack that an edge states, or that what the instruction leaves comes along
abbrev pub Says : List Node → Stated → Carried → edges.Carries → Type 0
Says ns s Flowing c = c ≡ edges.flowing
Says ns s Nothing c = (xs : List Stack) × (c ≡ edges.stated xs) × (state_meant ns s.nothing ≡ typings.stack xs)
Says ns s Object c = (xs : List Stack) × (c ≡ edges.stated xs) × (state_meant ns s.object ≡ typings.stack xs)
Says ns s (Caught k) c = (xs : List Stack) × (c ≡ edges.stated xs) × (state_meant ns (get_or s.caught k s.nothing) ≡ typings.stack xs)

-- the edges of instruction `k`
pub record AreWays (ns : List Node) (s : Stated) (f : Frame) (k : ℕ) (all : List Going) : Type 0 where
  pub each : (j : ℕ) (g : Going) → slice_get all j ≡ Some g → (g.to < length f.code) × ((c : edges.Carries) × Says ns s g.carries c × edges.Edge f k g.to c)
  pub whole : (t : ℕ) (c : edges.Carries) → t < length f.code → edges.Edge f k t c → (j : ℕ) × (g : Going) × (slice_get all j ≡ Some g) × (g.to ≡ t) × Says ns s g.carries c

-- the joins that one edge can take, in a body of `n` instructions
abbrev pub charge_of : ℕ → Carried → ℕ
charge_of n Flowing = n
charge_of n Nothing = 0
charge_of n Object = 1
charge_of n (Caught k) = 1

abbrev pub charge : ℕ → List Going → ℕ
charge n all = sum_by (λ (g : Going). charge_of n g.carries) all

-- those of all instructions
pub record AreAllWays (ns : List Node) (s : Stated) (f : Frame) (all : List (List Going)) : Type 0 where
  pub long : length all ≡ length f.code
  pub are : (k : ℕ) → k < length f.code → AreWays ns s f k (get_or all k [])

-- how often an instruction can be looked at, each time with a join for each of its edges and values
abbrev pub step_budget : Setup → List (List Going) → ℕ
step_budget at all = (2 + (length at.frame.code + 1) * at.top) * sum_by (charge (length at.frame.code)) all

-- ---- one step

-- what comes along an edge to `t` is joined to what is known there, and `t` is pushed where that changes
pub data Raises (w : Hierarchy) (ns : List Node) (states : List State) (list : Waiting) (t : ℕ) (comes : State) (ms : List Node) (after : List State) (later : Waiting) : Type 0 where
  stays : after ≡ states → later ≡ list → IsMeeting w (typing_of ns states t) (state_meant ns comes) (typing_of ns states t) → Raises w ns states list t comes ms after later
  rises : (z : State) → after ≡ slice_set states t z → later ≡ pushed list t → IsStateWithin (length ms) z → IsNewMeeting w (typing_of ns states t) (state_meant ns comes) (state_meant ms z) →
      Raises w ns states list t comes ms after later

-- ---- the edges of a body

-- the stacks that the edges of a body state
pub record AreStatedFor (ns : List Node) (s : Stated) (f : Frame) : Type 0 where
  pub stated : AreStated ns s
  pub nothing : state_meant ns s.nothing ≡ typings.stack []
  pub object : state_meant ns s.object ≡ typings.stack edges.any_object
  pub caught : (k : ℕ) → state_meant ns (get_or s.caught k s.nothing) ≡ typings.stack (found_in f (slice_get f.clauses k))
