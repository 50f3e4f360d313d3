-- The rules that an instruction breaks whatever the stack is, each with what tells it (ECMA-335 III.1.7, III.1.8).
use Rattle.std.specs.Prelude.{◌≡◌, ℕ, ◌+◌, ◌<◌, length, None, IsTrue}
use Rattle.std.specs.List.{Contains}
use Rattle.assembly_tree.specs.declared.body.Ins.{Ins}
use Rattle.code_flow.specs.declared.operation.Operation.{Operation}
use Rattle.code_flow.specs.declared.operation.Operation.TheVariants as does
use Rattle.code_flow.specs.Frames.{Frame}
use Rattle.code_flow.specs.Rows.{argument, local}
use Rattle.code_flow.specs.Blocks.{Block, blocks, Holds, IsLevel}
use Rattle.code_flow.specs.Edges.{Does, falls, branches, targets, Leaves}
use Rattle.code_flow.specs.Rules.{loads_local, loads_argument, calls, states_this, MayLeave, MayRethrow, MayEndFinally, MayEndFilter}

-- the code runs past its end (V6)
pub record RunsOff (f : Frame) (k : ℕ) : Type 0 where
  pub ins : Ins
  pub operation : Operation
  pub does : Does f k operation ins
  pub falls : IsTrue (falls operation)
  pub last : length f.code ≡ k + 1

-- no such local (V8)
pub record LacksLocal (f : Frame) (k : ℕ) : Type 0 where
  pub ins : Ins
  pub operation : Operation
  pub does : Does f k operation ins
  pub loads : IsTrue (loads_local operation)
  pub none : local f ins ≡ None

-- no such argument (V9)
pub record LacksArgument (f : Frame) (k : ℕ) : Type 0 where
  pub ins : Ins
  pub operation : Operation
  pub does : Does f k operation ins
  pub loads : IsTrue (loads_argument operation)
  pub none : argument f ins ≡ None

-- `ret` in a block (V11)
pub record ReturnsInside (f : Frame) (k : ℕ) : Type 0 where
  pub ins : Ins
  pub block : Block
  pub does : Does f k does.Return ins
  pub is : Contains (blocks f.clauses) block
  pub holds : Holds block k

-- a branch that isn't level (V12)
pub record BranchesAcross (f : Frame) (k : ℕ) : Type 0 where
  pub ins : Ins
  pub operation : Operation
  pub target : ℕ
  pub does : Does f k operation ins
  pub branches : IsTrue (branches operation)
  pub to : Contains (targets ins.operand) target
  pub across : IsLevel f.clauses k target → ⊥

-- a fall that isn't level (V13)
pub record FallsAcross (f : Frame) (k : ℕ) : Type 0 where
  pub ins : Ins
  pub operation : Operation
  pub does : Does f k operation ins
  pub falls : IsTrue (falls operation)
  pub next : k + 1 < length f.code
  pub across : IsLevel f.clauses k (k + 1) → ⊥

-- `leave`, `rethrow`, `endfinally` or `endfilter` out of its place (V15)
pub data IsMisplaced (f : Frame) (k : ℕ) : Type 0 where
  leaves : {t : ℕ} → Leaves f k t → (MayLeave f k t → ⊥) → IsMisplaced f k
  rethrows : {i : Ins} → Does f k does.Rethrow i → (MayRethrow f k → ⊥) → IsMisplaced f k
  ends_finally : {i : Ins} → Does f k does.EndFinally i → (MayEndFinally f k → ⊥) → IsMisplaced f k
  ends_filter : {i : Ins} → Does f k does.EndFilter i → (MayEndFilter f k → ⊥) → IsMisplaced f k

-- never verified (V18)
pub data IsUnverified (f : Frame) (k : ℕ) : Type 0 where
  unlisted : {i : Ins} → Does f k does.Unlisted i → IsUnverified f k
  explicit : {i : Ins} {o : Operation} → Does f k o i → IsTrue (calls o) → IsTrue (states_this i.operand) → IsUnverified f k
