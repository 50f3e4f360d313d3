-- The rules that an instruction breaks, by the stack before it.
use Rattle.std.specs.Prelude.{◌≡◌, ◌⊎◌, ℕ, ◌<◌, List, [], length, Some, IsTrue}
use Rattle.std.specs.List.{Contains}
use Rattle.type_terms.specs.declared.term.SigType.{SigType}
use Rattle.assembly_tree.specs.declared.body.Clause.{Clause}
use Rattle.assembly_tree.specs.declared.body.Ins.{Ins}
use Rattle.type_hierarchy.specs.Stack.{Stack}
use Rattle.code_flow.specs.declared.operation.Operation.{Operation}
use Rattle.code_flow.specs.declared.operation.Operation.TheVariants as does
use Rattle.code_flow.specs.declared.operation.Prefix.{Prefix}
use Rattle.stack_states.specs.Asking.{HasWrongOperand, FailsToFit, IsMismatched}
use Rattle.code_flow.specs.CodeRules.{RunsOff, LacksLocal, LacksArgument, ReturnsInside, BranchesAcross, FallsAcross, IsMisplaced, IsUnverified}
use Rattle.code_flow.specs.Edges.{Does}
use Rattle.code_flow.specs.Effects.{effect}
use Rattle.code_flow.specs.Frames.{Frame}
use Rattle.code_flow.specs.Prefixes.{Fits}
use Rattle.code_flow.specs.Rows.{row_of}
use Rattle.code_flow.specs.Rules.{MisfitsMember, addressed, is_by_reference}

-- too few operands (V1)
abbrev pub HasTooFew : Frame → ℕ → Ins → List Stack → Type 0
HasTooFew f k i s = length s < length (row_of f k i).operands

-- the stack is too deep, before or afterwards (V3)
abbrev pub IsTooDeep : Frame → ℕ → Ins → List Stack → Type 0
IsTooDeep f k i s = (f.bound < length s) ⊎ (f.bound < length (effect (row_of f k i) s))

-- a member that doesn't fit (V10)
pub record Misfits (f : Frame) (k : ℕ) : Type 0 where
  pub ins : Ins
  pub operation : Operation
  pub does : Does f k operation ins
  pub misfits : MisfitsMember f operation ins.operand

-- the operation leaves values on the stack that it doesn't take
pub record LeavesMore (f : Frame) (k : ℕ) (o : Operation) (s : List Stack) : Type 0 where
  pub ins : Ins
  pub does : Does f k o ins
  pub more : length (row_of f k ins).operands < length s

-- a try is entered with values on the stack (V14)
pub record EntersFull (f : Frame) (k : ℕ) (s : List Stack) : Type 0 where
  pub clause : Clause
  pub is : Contains f.clauses clause
  pub begins : clause.try_start ≡ k
  pub full : s ≡ [] → ⊥

-- a prefix that doesn't fit (V17)
pub record HasUnfitPrefix (f : Frame) (k : ℕ) : Type 0 where
  pub ins : Ins
  pub prefix : Prefix
  pub does : Does f k (does.Prefix prefix) ins
  pub unfit : Fits f k prefix → ⊥

-- a pointer to a by-reference type (V19)
pub record PointsToReference (f : Frame) (k : ℕ) : Type 0 where
  pub ins : Ins
  pub operation : Operation
  pub type : SigType
  pub does : Does f k operation ins
  pub addressed : addressed f ins operation ≡ Some type
  pub by_reference : IsTrue (is_by_reference type)

-- no rule with a number below `rule` is broken, where `s` stands before instruction `i` at `k`
pub record AreKept (f : Frame) (k : ℕ) (i : Ins) (s : List Stack) (rule : ℕ) : Type 0 where
  pub v1 : 1 < rule → HasTooFew f k i s → ⊥
  pub v3 : 3 < rule → IsTooDeep f k i s → ⊥
  pub v4 : 4 < rule → HasWrongOperand f.types (row_of f k i) s → ⊥
  pub v5 : 5 < rule → FailsToFit f.types (row_of f k i) s → ⊥
  pub v6 : 6 < rule → RunsOff f k → ⊥
  pub v7 : 7 < rule → IsMismatched f.types (row_of f k i) s → ⊥
  pub v8 : 8 < rule → LacksLocal f k → ⊥
  pub v9 : 9 < rule → LacksArgument f k → ⊥
  pub v10 : 10 < rule → Misfits f k → ⊥
  pub v11 : 11 < rule → (LeavesMore f k does.Return s ⊎ ReturnsInside f k) → ⊥
  pub v12 : 12 < rule → BranchesAcross f k → ⊥
  pub v13 : 13 < rule → FallsAcross f k → ⊥
  pub v14 : 14 < rule → EntersFull f k s → ⊥
  pub v15 : 15 < rule → (IsMisplaced f k ⊎ LeavesMore f k does.EndFilter s) → ⊥
  pub v17 : 17 < rule → HasUnfitPrefix f k → ⊥
  pub v18 : 18 < rule → IsUnverified f k → ⊥
  pub v19 : 19 < rule → PointsToReference f k → ⊥
