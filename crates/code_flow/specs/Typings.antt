-- Typings of a body: the stack before each instruction (ECMA-335 III.1.8.1.1 to III.1.8.1.3).
use Rattle.std.specs.Prelude.{ℕ, ◌<◌, List, [], length, slice_get, Option, None, Some}
use Rattle.assembly_tree.specs.declared.body.Ins.{Ins}
use Rattle.type_hierarchy.specs.Hierarchy.{Hierarchy}
use Rattle.type_hierarchy.specs.Stack.{Stack}
use Rattle.type_hierarchy.specs.Relations.{Below}
use Rattle.code_flow.specs.Stacks.{Each}
use Rattle.code_flow.specs.Frames.{Frame}
use Rattle.code_flow.specs.Rows.{row_of}
use Rattle.code_flow.specs.Effects.{effect}
use Rattle.code_flow.specs.Edges.{Carries, flowing, stated, Edge}

-- what is known before an instruction: that it isn't reached, the stack, or that stacks of different depth meet
pub data State : Type 0 where
  unreached : State
  stack : List Stack → State
  clash : State

abbrev pub Typing : Type 0
Typing = ℕ → State

-- ---- the order

-- stacks of one depth, each type below the other one
abbrev pub AreBelow : Hierarchy → List Stack → List Stack → Type 0
AreBelow w s t = Each (Below w) s t

-- unreached below all, clash above all
pub data AtMost (w : Hierarchy) : State → State → Type 0 where
  below_all : {x : State} → AtMost w unreached x
  above_all : {x : State} → AtMost w x clash
  stacks : {s t : List Stack} → AreBelow w s t → AtMost w (stack s) (stack t)

-- ---- solutions

-- the stack after instruction `k`
abbrev pub stack_after : Frame → ℕ → Option Ins → List Stack → List Stack
stack_after f k None s = s
stack_after f k (Some i) s = effect (row_of f k i) s

-- what comes along an edge of instruction `k`
abbrev pub carried : Frame → ℕ → Carries → State → State
carried f k c unreached = unreached
carried f k flowing (stack s) = stack (stack_after f k (slice_get f.code k) s)
carried f k flowing clash = clash
carried f k (stated s) (stack t) = stack s
carried f k (stated s) clash = stack s

-- The first instruction has at least the empty stack, and each other one at least what comes along each edge to it.
pub record IsSolution (f : Frame) (typing : Typing) : Type 0 where
  pub start : AtMost f.types (stack []) (typing 0)
  pub along : (k t : ℕ) (c : Carries) → k < length f.code → t < length f.code → Edge f k t c → AtMost f.types (carried f k c (typing k)) (typing t)

-- one typing is at most another, at each instruction
abbrev pub IsAtMost : Frame → Typing → Typing → Type 0
IsAtMost f x y = (k : ℕ) → k < length f.code → AtMost f.types (x k) (y k)

-- the solution that is at most each other
pub record IsLeast (f : Frame) (typing : Typing) : Type 0 where
  pub solves : IsSolution f typing
  pub least : (other : Typing) → IsSolution f other → IsAtMost f typing other
