-- Prefixes, and the instructions that they go with (ECMA-335 III.2).
use Rattle.std.specs.Prelude.{◌≡◌, ℕ, ◌+◌, ◌<◌, Bool, true, false, List, [], ◌∷◌, IsTrue}
use Rattle.std.specs.List.{Contains, flat_map}
use Rattle.assembly_tree.specs.declared.body.Clause.{Clause}
use Rattle.assembly_tree.specs.declared.body.ClauseKind.{ClauseKind}
use Rattle.assembly_tree.specs.declared.body.ClauseKind.TheVariants.{Catch, Filter, Finally, Fault}
use Rattle.assembly_tree.specs.declared.body.Ins.{Ins}
use Rattle.code_flow.specs.declared.operation.Operation.{Operation}
use Rattle.code_flow.specs.declared.operation.Operation.TheVariants as does
use Rattle.code_flow.specs.declared.operation.Prefix.{Prefix}
use Rattle.code_flow.specs.declared.operation.Prefix.TheVariants.{Constrained, Tail, Readonly, Unaligned, Volatile}
use Rattle.code_flow.specs.Frames.{Frame}
use Rattle.code_flow.specs.Edges.{Does, targets}

-- what is read or written at an address or in a field of an object
abbrev pub is_access : Operation → Bool
is_access (does.LoadIndirect p) = true
is_access does.LoadIndirectReference = true
is_access (does.StoreIndirect p) = true
is_access does.StoreIndirectReference = true
is_access does.LoadObject = true
is_access does.StoreObject = true
is_access does.LoadField = true
is_access does.StoreField = true
is_access o = false

abbrev pub is_volatile_access : Operation → Bool
is_volatile_access does.LoadStatic = true
is_volatile_access does.StoreStatic = true
is_volatile_access o = is_access o

abbrev pub is_call : Operation → Bool
is_call does.Call = true
is_call does.CallVirtual = true
is_call o = false

abbrev pub is_virtual_call : Operation → Bool
is_virtual_call does.CallVirtual = true
is_virtual_call o = false

abbrev pub is_element_address : Operation → Bool
is_element_address does.ElementAddress = true
is_element_address o = false

-- the instruction before which the prefix may stand
abbrev pub goes_with : Prefix → Operation → Bool
goes_with Constrained o = is_virtual_call o
goes_with Tail o = is_call o
goes_with Readonly o = is_element_address o
goes_with Unaligned o = is_access o
goes_with Volatile o = is_volatile_access o

abbrev pub is_prefix : Operation → Bool
is_prefix (does.Prefix p) = true
is_prefix o = false

-- ---- places to which control may come from elsewhere

-- an instruction of the body has it as a target
pub record IsTarget (f : Frame) (k : ℕ) : Type 0 where
  pub ins : Ins
  pub is : Contains f.code ins
  pub to : Contains (targets ins.operand) k

abbrev pub filter_start : ClauseKind → List ℕ
filter_start (Filter at) = at ∷ []
filter_start (Catch o) = []
filter_start Finally = []
filter_start Fault = []

-- where the blocks of a clause start and end
abbrev pub boundaries : Clause → List ℕ
boundaries c = c.try_start ∷ c.try_end ∷ c.handler_start ∷ c.handler_end ∷ filter_start c.kind

abbrev pub IsBoundary : Frame → ℕ → Type 0
IsBoundary f k = Contains (flat_map boundaries f.clauses) k

-- ---- what a prefix needs

-- `j` is the first instruction after `k` that is no prefix
pub record IsNextAfter (f : Frame) (k j : ℕ) (o : Operation) : Type 0 where
  pub ins : Ins
  pub later : k < j
  pub prefixes : (m : ℕ) → k < m → m < j → (p : Prefix) × (i : Ins) × Does f m (does.Prefix p) i
  pub does : Does f j o ins
  pub none : is_prefix o ≡ false

-- what `tail.` wants besides: that `ret` comes next
abbrev pub IsBeforeReturn : Frame → Prefix → ℕ → Type 0
IsBeforeReturn f Tail j = (i : Ins) × Does f (j + 1) does.Return i
IsBeforeReturn f Constrained j = Unit {0}
IsBeforeReturn f Readonly j = Unit {0}
IsBeforeReturn f Unaligned j = Unit {0}
IsBeforeReturn f Volatile j = Unit {0}

-- a prefix at `k` stands before an instruction that it goes with, at which control doesn't come from elsewhere
pub record Fits (f : Frame) (k : ℕ) (p : Prefix) : Type 0 where
  pub at : ℕ
  pub operation : Operation
  pub next : IsNextAfter f k at operation
  pub goes : IsTrue (goes_with p operation)
  pub returns : IsBeforeReturn f p at
  pub no_target : IsTarget f at → ⊥
  pub no_boundary : IsBoundary f at → ⊥
