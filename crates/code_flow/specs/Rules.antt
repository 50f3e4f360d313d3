-- The rules of verifiable code (ECMA-335 III.1.7, III.1.8), each for one instruction of a body.
use Rattle.std.specs.Prelude.{◌≡◌, ℕ, ◌+◌, ◌<◌, ◌≤◌, Bool, true, false, ◌||◌, not, List, [], length, codes, get_or, slice_get, Option, None, Some, IsTrue}
use Rattle.std.specs.List.{Contains}
use Rattle.type_terms.specs.declared.reference.FieldRef.{FieldRef}
use Rattle.type_terms.specs.declared.reference.MethodRef.{MethodRef}
use Rattle.type_terms.specs.declared.term.Owner.{Owner}
use Rattle.type_terms.specs.declared.term.Owner.TheOpen.{SigType-F, Prim, Class, Value, Inst, Var, MVar, SzArray, Array, ByRef, Pointer, Mod, Pinned}
use Rattle.type_terms.specs.declared.term.SigType.{SigType, out-SigType}
use Rattle.assembly_tree.specs.declared.body.Clause.{Clause}
use Rattle.assembly_tree.specs.declared.body.ClauseKind.TheVariants.{Catch, Filter, Finally, Fault}
use Rattle.assembly_tree.specs.declared.body.Ins.{Ins}
use Rattle.assembly_tree.specs.declared.body.Operand as operand
use Rattle.assembly_tree.specs.declared.members.Field.{Field}
use Rattle.type_hierarchy.specs.Names.{same_text}
use Rattle.type_hierarchy.specs.Stack.{Stack, bad}
use Rattle.code_flow.specs.declared.operation.Operation.{Operation}
use Rattle.code_flow.specs.declared.operation.Operation.TheVariants as does
use Rattle.code_flow.specs.declared.operation.Prefix.{Prefix}
use Rattle.code_flow.specs.Methods.{DeclaresField, is_static}
use Rattle.code_flow.specs.Frames.{Frame}
use Rattle.code_flow.specs.Demands.{Demand, HasWrongKind, FailsToAssign, AreMismatched, FailToStore}
use Rattle.code_flow.specs.Rows.{row_of, argument, local}
use Rattle.code_flow.specs.Effects.{taken, effect}
use Rattle.code_flow.specs.Blocks.{BlockKind, guarded, handler, filter, Block, blocks, Holds, IsInnermost, IsLevel, BeginsAt}
use Rattle.code_flow.specs.Edges.{Does, falls, branches, targets, Leaves}
use Rattle.code_flow.specs.Typings.{unreached, stack, clash, Typing}
use Rattle.code_flow.specs.Prefixes.{Fits}

-- ---- what instructions do

abbrev pub loads_local : Operation → Bool
loads_local does.LoadLocal = true
loads_local does.StoreLocal = true
loads_local does.LocalAddress = true
loads_local o = false

abbrev pub loads_argument : Operation → Bool
loads_argument does.LoadArgument = true
loads_argument does.StoreArgument = true
loads_argument does.ArgumentAddress = true
loads_argument o = false

abbrev pub layer_is_by_reference : SigType-F Owner SigType → Bool
layer_is_by_reference (ByRef of) = true
layer_is_by_reference (Prim p) = false
layer_is_by_reference (Class name) = false
layer_is_by_reference (Value name) = false
layer_is_by_reference (Inst value name args) = false
layer_is_by_reference (Var n) = false
layer_is_by_reference (MVar n) = false
layer_is_by_reference (SzArray of) = false
layer_is_by_reference (Array of rank sizes lower) = false
layer_is_by_reference (Pointer of) = false
layer_is_by_reference (Mod required by of) = false
layer_is_by_reference (Pinned of) = false

abbrev pub is_by_reference : SigType → Bool
is_by_reference t = layer_is_by_reference (out-SigType t)

-- the variable whose address an instruction takes
abbrev pub addressed : Frame → Ins → Operation → Option SigType
addressed f i does.ArgumentAddress = argument f i
addressed f i does.LocalAddress = local f i
addressed f i o = None

-- ---- members

-- whether a method reference doesn't fit the instruction: `newobj` wants an instance method `.ctor`, `callvirt` an instance
-- method (III.4.21, III.4.2)
abbrev pub misfits_method : Operation → MethodRef → Bool
misfits_method does.NewObject m = not m.sig.has_this || not (same_text m.name (codes ".ctor"))
misfits_method does.CallVirtual m = not m.sig.has_this
misfits_method o m = false

-- whether an instruction wants a static field, where it wants a field (III.4.10 to III.4.30)
abbrev pub wants_static : Operation → Option Bool
wants_static does.LoadField = Some false
wants_static does.FieldAddress = Some false
wants_static does.StoreField = Some false
wants_static does.LoadStatic = Some true
wants_static does.StaticAddress = Some true
wants_static does.StoreStatic = Some true
wants_static o = None

-- a field that the image declares is static where the instruction wants one of an instance, or the other way round
pub record MisfitsField (f : Frame) (o : Operation) (r : FieldRef) : Type 0 where
  pub field : Field
  pub declared : DeclaresField f.image f.types r field
  pub wanted : wants_static o ≡ Some (not (is_static field))

abbrev pub MisfitsMember : Frame → Operation → operand.Operand → Type 0
MisfitsMember f o (operand.TheVariants.Method m) = IsTrue (misfits_method o m)
MisfitsMember f o (operand.TheVariants.Field r) = MisfitsField f o r
MisfitsMember f o other = ⊥

-- an instruction that calls a method, whose signature states the type of `this`
abbrev pub calls : Operation → Bool
calls does.Call = true
calls does.CallVirtual = true
calls does.NewObject = true
calls o = false

abbrev pub states_this : operand.Operand → Bool
states_this (operand.TheVariants.Method m) = m.sig.explicit_this
states_this o = false

-- ---- blocks

-- a try, or the handler of a catch or filter clause (III.3.46)
abbrev pub may_be_left : BlockKind → Bool
may_be_left guarded = true
may_be_left (handler (Catch o)) = true
may_be_left (handler (Filter at)) = true
may_be_left (handler Finally) = false
may_be_left (handler Fault) = false
may_be_left filter = false

abbrev pub is_catching : BlockKind → Bool
is_catching (handler (Catch o)) = true
is_catching (handler (Filter at)) = true
is_catching (handler Finally) = false
is_catching (handler Fault) = false
is_catching guarded = false
is_catching filter = false

abbrev pub is_ending : BlockKind → Bool
is_ending (handler Finally) = true
is_ending (handler Fault) = true
is_ending (handler (Catch o)) = false
is_ending (handler (Filter at)) = false
is_ending guarded = false
is_ending filter = false

abbrev pub is_handling : BlockKind → Bool
is_handling (handler k) = true
is_handling filter = true
is_handling guarded = false

-- a `leave` may go from `k` to `t`
pub record MayLeave (f : Frame) (k t : ℕ) : Type 0 where
  pub out : (b : Block) → Contains (blocks f.clauses) b → Holds b k → (Holds b t → ⊥) → IsTrue (may_be_left b.kind)
  pub into : (b : Block) → Contains (blocks f.clauses) b → Holds b t → (Holds b k → ⊥) → BeginsAt b t

-- the innermost handler or filter that holds `k` is the handler of a catch or filter clause
pub record MayRethrow (f : Frame) (k : ℕ) : Type 0 where
  pub block : Block
  pub is : Contains (blocks f.clauses) block
  pub holds : Holds block k
  pub catching : IsTrue (is_catching block.kind)
  pub innermost : (b : Block) → Contains (blocks f.clauses) b → Holds b k → IsTrue (is_handling b.kind) → (b.start ≤ block.start) × (block.end ≤ b.end)

pub record MayEndFinally (f : Frame) (k : ℕ) : Type 0 where
  pub block : Block
  pub innermost : IsInnermost f.clauses k block
  pub ending : IsTrue (is_ending block.kind)

-- the last instruction of a filter, which is the innermost block
pub record MayEndFilter (f : Frame) (k : ℕ) : Type 0 where
  pub block : Block
  pub innermost : IsInnermost f.clauses k block
  pub is_filter : block.kind ≡ filter
  pub last : block.end ≡ k + 1

-- ---- the rules, by their numbers

pub data Breaks (f : Frame) (typing : Typing) (k : ℕ) : ℕ → Type 0 where
  -- too few operands
  v1 : {i : Ins} {s : List Stack} → slice_get f.code k ≡ Some i → typing k ≡ stack s → length s < length (row_of f k i).operands → Breaks f typing k 1
  -- stacks of different depth meet
  v2 : typing k ≡ clash → Breaks f typing k 2
  -- the stack is too deep, before or afterwards
  v3_before : {s : List Stack} → typing k ≡ stack s → f.bound < length s → Breaks f typing k 3
  v3_after : {i : Ins} {s : List Stack} → slice_get f.code k ≡ Some i → typing k ≡ stack s → f.bound < length (effect (row_of f k i) s) → Breaks f typing k 3
  -- an operand of a wrong kind
  v4 : {i : Ins} {s : List Stack} {d : Demand} (n : ℕ) → slice_get f.code k ≡ Some i → typing k ≡ stack s → slice_get (row_of f k i).operands n ≡ Some d →
      HasWrongKind f.types d (get_or (taken (row_of f k i) s) n bad) → Breaks f typing k 4
  -- an operand that isn't assignable
  v5 : {i : Ins} {s : List Stack} {d : Demand} (n : ℕ) → slice_get f.code k ≡ Some i → typing k ≡ stack s → slice_get (row_of f k i).operands n ≡ Some d →
      FailsToAssign f.types d (get_or (taken (row_of f k i) s) n bad) → Breaks f typing k 5
  v5_stored : {i : Ins} {s : List Stack} → slice_get f.code k ≡ Some i → typing k ≡ stack s →
      FailToStore f.types (row_of f k i).together (taken (row_of f k i) s) → Breaks f typing k 5
  -- the last instruction falls on
  v6 : {i : Ins} {o : Operation} → Does f k o i → IsTrue (falls o) → length f.code ≡ k + 1 → Breaks f typing k 6
  -- operands that don't go together
  v7 : {i : Ins} {s : List Stack} → slice_get f.code k ≡ Some i → typing k ≡ stack s →
      AreMismatched f.types (row_of f k i).together (taken (row_of f k i) s) → Breaks f typing k 7
  -- no such local, no such argument
  v8 : {i : Ins} {o : Operation} → Does f k o i → IsTrue (loads_local o) → local f i ≡ None → Breaks f typing k 8
  v9 : {i : Ins} {o : Operation} → Does f k o i → IsTrue (loads_argument o) → argument f i ≡ None → Breaks f typing k 9
  -- a member that doesn't fit
  v10 : {i : Ins} {o : Operation} → Does f k o i → MisfitsMember f o i.operand → Breaks f typing k 10
  -- `ret` with too many operands, or in a block
  v11_deep : {i : Ins} {s : List Stack} → Does f k does.Return i → typing k ≡ stack s → length (row_of f k i).operands < length s → Breaks f typing k 11
  v11_inside : {i : Ins} {b : Block} → Does f k does.Return i → Contains (blocks f.clauses) b → Holds b k → Breaks f typing k 11
  -- a branch that isn't level
  v12 : {i : Ins} {o : Operation} {t : ℕ} → Does f k o i → IsTrue (branches o) → Contains (targets i.operand) t → (IsLevel f.clauses k t → ⊥) → Breaks f typing k 12
  -- a fall that isn't level
  v13 : {i : Ins} {o : Operation} → Does f k o i → IsTrue (falls o) → k + 1 < length f.code → (IsLevel f.clauses k (k + 1) → ⊥) → Breaks f typing k 13
  -- a try that is entered with values on the stack
  v14 : {c : Clause} {s : List Stack} → Contains f.clauses c → c.try_start ≡ k → typing k ≡ stack s → (s ≡ [] → ⊥) → Breaks f typing k 14
  -- out of its place
  v15_leave : {t : ℕ} → Leaves f k t → (MayLeave f k t → ⊥) → Breaks f typing k 15
  v15_rethrow : {i : Ins} → Does f k does.Rethrow i → (MayRethrow f k → ⊥) → Breaks f typing k 15
  v15_end_finally : {i : Ins} → Does f k does.EndFinally i → (MayEndFinally f k → ⊥) → Breaks f typing k 15
  v15_end_filter : {i : Ins} → Does f k does.EndFilter i → (MayEndFilter f k → ⊥) → Breaks f typing k 15
  v15_deep : {i : Ins} {s : List Stack} → Does f k does.EndFilter i → typing k ≡ stack s → length (row_of f k i).operands < length s → Breaks f typing k 15
  -- a prefix that doesn't fit
  v17 : {i : Ins} {p : Prefix} → Does f k (does.Prefix p) i → (Fits f k p → ⊥) → Breaks f typing k 17
  -- never verified
  v18 : {i : Ins} → Does f k does.Unlisted i → Breaks f typing k 18
  v18_explicit : {i : Ins} {o : Operation} → Does f k o i → IsTrue (calls o) → IsTrue (states_this i.operand) → Breaks f typing k 18
  -- a pointer to a by-reference type
  v19 : {i : Ins} {o : Operation} {t : SigType} → Does f k o i → addressed f i o ≡ Some t → IsTrue (is_by_reference t) → Breaks f typing k 19

-- the first rule, by its number, that a reached instruction breaks
pub record BreaksFirst (f : Frame) (typing : Typing) (k rule : ℕ) : Type 0 where
  pub reached : typing k ≡ unreached → ⊥
  pub breaks : Breaks f typing k rule
  pub first : (r : ℕ) → r < rule → Breaks f typing k r → ⊥
