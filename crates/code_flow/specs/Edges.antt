-- Where control goes from an instruction (ECMA-335 III.1.7, III.3.15 to III.3.56, I.12.4.2.8).
use Rattle.std.specs.Prelude.{◌≡◌, ◌≢◌, ℕ, ◌+◌, ◌<◌, ◌≤◌, Bool, true, false, List, [], ◌∷◌, slice_get, Some, IsTrue}
use Rattle.std.specs.List.{Contains}
use Rattle.type_terms.specs.declared.term.Owner.{Owner}
use Rattle.assembly_tree.specs.declared.body.Clause.{Clause}
use Rattle.assembly_tree.specs.declared.body.ClauseKind.{ClauseKind}
use Rattle.assembly_tree.specs.declared.body.ClauseKind.TheVariants.{Catch, Filter, Finally, Fault}
use Rattle.assembly_tree.specs.declared.body.Ins.{Ins}
use Rattle.assembly_tree.specs.declared.body.Operand as operand
use Rattle.type_hierarchy.specs.Hierarchy.{object}
use Rattle.type_hierarchy.specs.Stack.{Stack, ref, boxed_of}
use Rattle.code_flow.specs.declared.operation.Operation.{Operation}
use Rattle.code_flow.specs.declared.operation.Operation.TheVariants as does
use Rattle.code_flow.specs.Operations.{operation}
use Rattle.code_flow.specs.Frames.{Frame, owner_in}
use Rattle.code_flow.specs.Blocks.{try_block, handler_block, Holds, IsInnermost, SameTry}

-- ---- instructions

-- the instruction at a place, and what it does
pub record Does (f : Frame) (k : ℕ) (o : Operation) (i : Ins) : Type 0 where
  pub is : slice_get f.code k ≡ Some i
  pub does : operation i.op ≡ o

-- whether control goes on to the next instruction
abbrev pub falls : Operation → Bool
falls does.Branch = false
falls does.Leave = false
falls does.Return = false
falls does.Throw = false
falls does.Rethrow = false
falls does.EndFinally = false
falls does.EndFilter = false
falls does.Unlisted = false
falls o = true

-- branches and switch, but for leave
abbrev pub branches : Operation → Bool
branches does.Branch = true
branches does.BranchIf = true
branches does.BranchEqual = true
branches does.BranchOrder = true
branches does.Switch = true
branches o = false

abbrev pub targets : operand.Operand → List ℕ
targets (operand.TheVariants.Target t) = t ∷ []
targets (operand.TheVariants.Targets ts) = ts
targets o = []

-- ---- leaving through finally clauses

-- `l` is a `leave` to `t`
pub record Leaves (f : Frame) (l t : ℕ) : Type 0 where
  pub ins : Ins
  pub is : Does f l does.Leave ins
  pub to : Contains (targets ins.operand) t

-- the finally clause at a place, whose try holds the `leave` and not its target
pub record Crosses (f : Frame) (l t place : ℕ) (c : Clause) : Type 0 where
  pub leaves : Leaves f l t
  pub is : slice_get f.clauses place ≡ Some c
  pub finally : c.kind ≡ Finally
  pub from : Holds (try_block c) l
  pub out : Holds (try_block c) t → ⊥

-- the try of the first lies in that of the second; of equal tries the earlier clause is the inner one
pub record IsWithin (i : ℕ) (c : Clause) (j : ℕ) (d : Clause) : Type 0 where
  pub starts : d.try_start ≤ c.try_start
  pub ends : c.try_end ≤ d.try_end
  pub earlier : SameTry c d → i < j

-- the innermost that the `leave` crosses
pub record CrossesFirst (f : Frame) (l t place : ℕ) (c : Clause) : Type 0 where
  pub crosses : Crosses f l t place c
  pub inner : (j : ℕ) (d : Clause) → Crosses f l t j d → j ≢ place → IsWithin place c j d

-- the next outward that the `leave` crosses after the clause at `i`
pub record CrossesNext (f : Frame) (l t i : ℕ) (c : Clause) (place : ℕ) (d : Clause) : Type 0 where
  pub crosses : Crosses f l t place d
  pub other : place ≢ i
  pub outer : IsWithin i c place d
  pub next : (j : ℕ) (e : Clause) → Crosses f l t j e → j ≢ i → j ≢ place → IsWithin i c j e → IsWithin place d j e

-- the instruction is an `endfinally` whose innermost block is the handler of the finally clause at a place
pub record EndsFinally (f : Frame) (k place : ℕ) (c : Clause) : Type 0 where
  pub ins : Ins
  pub does : Does f k does.EndFinally ins
  pub is : slice_get f.clauses place ≡ Some c
  pub finally : c.kind ≡ Finally
  pub innermost : IsInnermost f.clauses k (handler_block c)

-- ---- edges

-- the stack that comes along an edge: what the instruction leaves, or one that the edge itself states
pub data Carries : Type 0 where
  flowing : Carries
  stated : List Stack → Carries

-- the clause's try holds the instruction
pub record Guards (f : Frame) (k : ℕ) (kind : ClauseKind) (c : Clause) : Type 0 where
  pub is : Contains f.clauses c
  pub handles : c.kind ≡ kind
  pub holds : Holds (try_block c) k

-- what a catch clause finds: an object of the type, or a boxed value of it
abbrev pub caught : Frame → Owner → List Stack
caught f o = boxed_of (owner_in f.types o) ∷ []

-- what a filter and its handler find
abbrev pub any_object : List Stack
any_object = ref object ∷ []

-- an edge from instruction `k` to `t`, which may be the code's end
pub data Edge (f : Frame) (k : ℕ) : ℕ → Carries → Type 0 where
  fall : {i : Ins} {o : Operation} {t : ℕ} → Does f k o i → IsTrue (falls o) → t ≡ k + 1 → Edge f k t flowing
  branch : {i : Ins} {o : Operation} {t : ℕ} → Does f k o i → IsTrue (branches o) → Contains (targets i.operand) t → Edge f k t flowing
  -- a leave goes to the innermost finally that it crosses, and else to its target
  leave : {t : ℕ} → Leaves f k t → ((j : ℕ) (d : Clause) → Crosses f k t j d → ⊥) → Edge f k t (stated [])
  leave_finally : {target place t : ℕ} {c : Clause} → CrossesFirst f k target place c → t ≡ c.handler_start → Edge f k t (stated [])
  -- the end of a finally goes on for each leave that crosses it: to the next that it crosses, and else to its target
  next_finally : {l target i place t : ℕ} {c d : Clause} → EndsFinally f k i c → Crosses f l target i c →
      CrossesNext f l target i c place d → t ≡ d.handler_start → Edge f k t (stated [])
  finally_left : {l t i : ℕ} {c : Clause} → EndsFinally f k i c → Crosses f l t i c →
      ((j : ℕ) (d : Clause) → CrossesNext f l t i c j d → ⊥) → Edge f k t (stated [])
  -- each instruction of a try goes to the handlers and filters of its clauses
  catches : {o : Owner} {c : Clause} {t : ℕ} → Guards f k (Catch o) c → t ≡ c.handler_start → Edge f k t (stated (caught f o))
  filters : {at : ℕ} {c : Clause} {t : ℕ} → Guards f k (Filter at) c → t ≡ at → Edge f k t (stated any_object)
  filtered : {at : ℕ} {c : Clause} {t : ℕ} → Guards f k (Filter at) c → t ≡ c.handler_start → Edge f k t (stated any_object)
  finally : {c : Clause} {t : ℕ} → Guards f k Finally c → t ≡ c.handler_start → Edge f k t (stated [])
  fault : {c : Clause} {t : ℕ} → Guards f k Fault c → t ≡ c.handler_start → Edge f k t (stated [])
