-- The edges of a body as lists, one for each instruction (ECMA-335 III.1.7, III.3.15 to III.3.56, I.12.4.2.8).
use Rattle.std.specs.Prelude.{◌≡◌, ℕ, ◌<◌, List, [], length, get_or, slice_get, Option, None, Some}
use Rattle.std.specs.List.{Contains, AllPairs}
use Rattle.assembly_tree.specs.declared.body.Clause.{Clause}
use Rattle.assembly_tree.specs.declared.body.ClauseKind.{ClauseKind}
use Rattle.assembly_tree.specs.declared.body.ClauseKind.TheVariants.{Catch, Filter, Finally, Fault}
use Rattle.type_hierarchy.specs.Stack.{Stack}
use Rattle.code_flow.specs.declared.goings.Carried.{Carried}
use Rattle.code_flow.specs.declared.goings.Carried.TheVariants.{Flowing, Nothing, Object, Caught}
use Rattle.code_flow.specs.declared.goings.Going.{Going}
use Rattle.code_flow.specs.Frames.{Frame}
use Rattle.code_flow.specs.Edges.{Carries, flowing, stated, caught, any_object, Edge}

-- ---- what one says

-- what the handler of a clause finds, where it catches a type
abbrev pub found_by : Frame → ClauseKind → List Stack
found_by f (Catch o) = caught f o
found_by f (Filter at) = []
found_by f Finally = []
found_by f Fault = []

abbrev pub found_in : Frame → Option Clause → List Stack
found_in f None = []
found_in f (Some c) = found_by f c.kind

abbrev pub carries_of : Frame → Carried → Carries
carries_of f Flowing = flowing
carries_of f Nothing = stated []
carries_of f Object = stated any_object
carries_of f (Caught place) = stated (found_in f (slice_get f.clauses place))

-- ---- those of a body

-- both lead to one instruction, and both with what the instruction leaves
pub record FlowTogether (g h : Going) : Type 0 where
  pub to : g.to ≡ h.to
  pub first : g.carries ≡ Flowing
  pub second : h.carries ≡ Flowing

-- an object comes along
pub data BringsObject : Carried → Type 0 where
  any_comes : {c : Carried} → c ≡ Object → BringsObject c
  caught_comes : {c : Carried} {place : ℕ} → c ≡ Caught place → BringsObject c

-- both lead to one instruction, and both with an object
pub record BringTogether (g h : Going) : Type 0 where
  pub to : g.to ≡ h.to
  pub first : BringsObject g.carries
  pub second : BringsObject h.carries

-- those of an instruction are its edges to instructions, and of those that lead to one at most one brings what the
-- instruction leaves, and at most one an object
pub record AreGoings (f : Frame) (k : ℕ) (goings : List Going) : Type 0 where
  pub each : (g : Going) → Contains goings g → (g.to < length f.code) × Edge f k g.to (carries_of f g.carries)
  pub all : (t : ℕ) (c : Carries) → t < length f.code → Edge f k t c → (g : Going) × Contains goings g × (g.to ≡ t) × (carries_of f g.carries ≡ c)
  pub flow_once : AllPairs (λ (g h : Going). FlowTogether g h → ⊥) goings
  pub bring_once : AllPairs (λ (g h : Going). BringTogether g h → ⊥) goings

-- a list for each instruction
pub record IsGoings (f : Frame) (goings : List (List Going)) : Type 0 where
  pub count : length goings ≡ length f.code
  pub are : (k : ℕ) → k < length f.code → AreGoings f k (get_or goings k [])
