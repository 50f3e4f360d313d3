-- The operands and results of each instruction (ECMA-335 III.3, III.4): what is asked of each operand, the one that was
-- pushed first before the others, and what is pushed.
use Rattle.std.specs.Prelude.{ℕ, zero, suc, Bool, true, false, if◌then◌else◌, List, [], ◌∷◌, ◌++◌, map, codes, slice_get, Option, None, Some, option_and_then}
use Rattle.type_terms.specs.declared.reference.FieldRef.{FieldRef}
use Rattle.type_terms.specs.declared.reference.MethodRef.{MethodRef}
use Rattle.type_terms.specs.declared.term.Owner.{Owner}
use Rattle.type_terms.specs.declared.term.Owner.TheOpen.{SigType-F, Prim, Class, Value, Inst, Var, MVar, SzArray, Array, ByRef, Pointer, Mod, Pinned}
use Rattle.type_terms.specs.declared.term.Primitive.{Primitive}
use Rattle.type_terms.specs.declared.term.Primitive.TheVariants as prim
use Rattle.type_terms.specs.declared.term.SigType.{SigType, out-SigType}
use Rattle.type_terms.specs.declared.term.SigType.TheVariants as type
use Rattle.opcode_table.specs.declared.op.Op.{Op}
use Rattle.opcode_table.specs.declared.op.Op.TheVariants as op
use Rattle.assembly_tree.specs.declared.body.Ins.{Ins}
use Rattle.assembly_tree.specs.declared.body.Operand as operand
use Rattle.type_hierarchy.specs.Names.{system}
use Rattle.type_hierarchy.specs.Hierarchy.{Hierarchy, core_name}
use Rattle.type_hierarchy.specs.Stack.{Stack, i4, i8, native, float, null, ref, boxed, val, ptr, bad, is_reference, verified, primitive_stack, stack_of, pointer_to, boxed_of}
use Rattle.code_flow.specs.declared.operation.Number.{Number}
use Rattle.code_flow.specs.declared.operation.Number.TheVariants as number_of
use Rattle.code_flow.specs.declared.operation.Numeric.{Numeric}
use Rattle.code_flow.specs.declared.operation.Numeric.TheVariants as numeric_type
use Rattle.code_flow.specs.declared.operation.Operation.{Operation}
use Rattle.code_flow.specs.declared.operation.Operation.TheVariants as does
use Rattle.code_flow.specs.declared.operation.Prefix.TheVariants as prefix
use Rattle.code_flow.specs.Operations.{operation}
use Rattle.code_flow.specs.Frames.{Frame, owner_in, member_type}
use Rattle.code_flow.specs.Demands.{Demand, nothing, any, number, integer, index, object, condition, comparable, exactly, one_of, to, object_pointer, vector, vector_of, object_vector, Together, apart, paired, stored, Pairing, numeric, integral, equality, ordering, is_number, is_integer, referent, object_element, first, second, outcome}

-- ---- results

pub data Pushed : Type 0 where
  -- that type, whatever the operands are
  always : Stack → Pushed
  -- the first operand
  same : Pushed
  -- the first operand where it is a number
  same_number : Pushed
  same_integer : Pushed
  -- an object of the reference type that the first operand points to
  pointed : Pushed
  -- an element of the first operand, a vector of a reference type, and null where that is null
  fetched : Pushed
  -- the outcome of a numeric operation on the two operands
  computed : Pairing → Pushed

abbrev pub kept_if : Bool → Stack → Stack
kept_if b s = if b then s else bad

abbrev pub reference_to : Option SigType → Stack
reference_to None = bad
reference_to (Some t) = ref t

abbrev pub null_or_bad : Stack → Stack
null_or_bad null = null
null_or_bad i4 = bad
null_or_bad i8 = bad
null_or_bad native = bad
null_or_bad float = bad
null_or_bad (ref t) = bad
null_or_bad (boxed t) = bad
null_or_bad (val t) = bad
null_or_bad (ptr t) = bad
null_or_bad bad = bad

abbrev pub fetched_from : Stack → Option SigType → Stack
fetched_from s None = null_or_bad s
fetched_from s (Some t) = ref t

-- what is pushed, by the operands. What depends on an operand that doesn't meet its demand is Bad
abbrev pub given : List Stack → Pushed → Stack
given operands (always s) = s
given operands same = first operands
given operands same_number = kept_if (is_number (first operands)) (first operands)
given operands same_integer = kept_if (is_integer (first operands)) (first operands)
given operands pointed = reference_to (referent (first operands))
given operands fetched = fetched_from (first operands) (object_element (first operands))
given operands (computed p) = outcome p (first operands) (second operands)

-- ---- rows

pub record Row : Type 0 where
  pub operands : List Demand
  pub together : Together
  pub pushed : List Pushed
  -- whether the stack is empty afterwards
  pub empties : Bool

abbrev pub row : List Demand → List Pushed → Row
row operands pushed = record { operands = operands; together = apart; pushed = pushed; empties = false }

abbrev pub pair_row : Pairing → List Pushed → Row
pair_row p pushed = record { operands = comparable ∷ comparable ∷ []; together = paired p; pushed = pushed; empties = false }

-- a row that stores an object where a pointer to a reference type points
abbrev pub storing : Row
storing = record { operands = object_pointer ∷ any ∷ []; together = stored; pushed = []; empties = false }

abbrev pub emptying : Row
emptying = record { operands = []; together = apart; pushed = []; empties = true }

abbrev pub pushes : Stack → List Pushed
pushes s = always s ∷ []

-- ---- what instructions name

-- the number of a variable
abbrev pub operand_variable : operand.Operand → ℕ
operand_variable (operand.TheVariants.Var n) = n
operand_variable o = 0

abbrev pub variable_by : Op → ℕ → ℕ
variable_by op.Ldarg0 n = 0
variable_by op.Ldarg1 n = 1
variable_by op.Ldarg2 n = 2
variable_by op.Ldarg3 n = 3
variable_by op.Ldloc0 n = 0
variable_by op.Ldloc1 n = 1
variable_by op.Ldloc2 n = 2
variable_by op.Ldloc3 n = 3
variable_by op.Stloc0 n = 0
variable_by op.Stloc1 n = 1
variable_by op.Stloc2 n = 2
variable_by op.Stloc3 n = 3
variable_by o n = n

unfoldable pub variable : Ins → ℕ
variable i = variable_by i.op (operand_variable i.operand)

abbrev pub argument : Frame → Ins → Option SigType
argument f i = slice_get f.arguments (variable i)

abbrev pub local : Frame → Ins → Option SigType
local f i = slice_get f.locals (variable i)

-- the type that an instruction names; a well-formed one that has to name a type does
abbrev pub named_in : Hierarchy → operand.Operand → SigType
named_in w (operand.TheVariants.Of o) = owner_in w o
named_in w o = type.Prim prim.Void

abbrev pub named : Frame → operand.Operand → SigType
named f o = named_in f.types o

-- ---- rows of variables

abbrev pub load_row : Hierarchy → Option SigType → Row
load_row w None = row [] (pushes bad)
load_row w (Some t) = row [] (pushes (stack_of w t))

abbrev pub store_row : Hierarchy → Option SigType → Row
store_row w None = row (nothing ∷ []) []
store_row w (Some t) = row (to (stack_of w t) ∷ []) []

abbrev pub layer_address : Hierarchy → SigType → SigType-F Owner SigType → Stack
layer_address w t (ByRef of) = bad
layer_address w t (Prim p) = pointer_to w t
layer_address w t (Class name) = pointer_to w t
layer_address w t (Value name) = pointer_to w t
layer_address w t (Inst value name args) = pointer_to w t
layer_address w t (Var n) = pointer_to w t
layer_address w t (MVar n) = pointer_to w t
layer_address w t (SzArray of) = pointer_to w t
layer_address w t (Array of rank sizes lower) = pointer_to w t
layer_address w t (Pointer of) = pointer_to w t
layer_address w t (Mod required by of) = pointer_to w t
layer_address w t (Pinned of) = pointer_to w t

-- a pointer to a variable; there is none to one of a by-reference type
abbrev pub address_of : Hierarchy → Option SigType → Stack
address_of w None = bad
address_of w (Some t) = layer_address w t (out-SigType t)

abbrev pub address_row : Hierarchy → Option SigType → Row
address_row w t = row [] (pushes (address_of w t))

-- ---- rows of members

-- the object of a field or a call, whose owner is that type. With a type that `constrained.` names it is a pointer to it
-- (III.2.1)
abbrev pub object_demand : Hierarchy → Option SigType → SigType → Demand
object_demand w (Some t) owner = exactly (pointer_to w t)
object_demand w None owner = if is_reference owner then to (ref owner) else exactly (pointer_to w owner)

-- the object that a field is loaded from may be a value too (III.4.10)
abbrev pub loaded_demand : Hierarchy → Option SigType → SigType → Demand
loaded_demand w (Some t) owner = exactly (pointer_to w t)
loaded_demand w None owner = if is_reference owner then to (ref owner) else one_of (pointer_to w owner) (val owner)

abbrev pub field_type : Hierarchy → FieldRef → SigType
field_type w r = member_type w r.owner None r.of

abbrev pub field_row : Hierarchy → Option SigType → Operation → FieldRef → Row
field_row w constrained does.LoadField r = row (loaded_demand w constrained (owner_in w r.owner) ∷ []) (pushes (stack_of w (field_type w r)))
field_row w constrained does.FieldAddress r = row (object_demand w constrained (owner_in w r.owner) ∷ []) (pushes (pointer_to w (field_type w r)))
field_row w constrained does.StoreField r = row (object_demand w constrained (owner_in w r.owner) ∷ to (stack_of w (field_type w r)) ∷ []) []
field_row w constrained does.LoadStatic r = row [] (pushes (stack_of w (field_type w r)))
field_row w constrained does.StaticAddress r = row [] (pushes (pointer_to w (field_type w r)))
field_row w constrained does.StoreStatic r = row (to (stack_of w (field_type w r)) ∷ []) []
field_row w constrained o r = row [] []

abbrev pub layer_result : Hierarchy → SigType → SigType-F Owner SigType → List Pushed
layer_result w t (Prim prim.Void) = []
layer_result w t (Prim p) = pushes (stack_of w t)
layer_result w t (Class name) = pushes (stack_of w t)
layer_result w t (Value name) = pushes (stack_of w t)
layer_result w t (Inst value name args) = pushes (stack_of w t)
layer_result w t (Var n) = pushes (stack_of w t)
layer_result w t (MVar n) = pushes (stack_of w t)
layer_result w t (SzArray of) = pushes (stack_of w t)
layer_result w t (Array of rank sizes lower) = pushes (stack_of w t)
layer_result w t (ByRef of) = pushes (stack_of w t)
layer_result w t (Pointer of) = pushes (stack_of w t)
layer_result w t (Mod required by of) = pushes (stack_of w t)
layer_result w t (Pinned of) = pushes (stack_of w t)

-- a value of the type that a method returns; none for void
abbrev pub result : Hierarchy → SigType → List Pushed
result w t = layer_result w t (out-SigType t)

-- a value that is assignable to the type that a method returns; none for void
abbrev pub demand_of : Pushed → Demand
demand_of (always s) = to s
demand_of p = nothing

abbrev pub return_demands : Hierarchy → SigType → List Demand
return_demands w t = map demand_of (result w t)

abbrev pub parameter_demand : Hierarchy → MethodRef → SigType → Demand
parameter_demand w m t = to (stack_of w (member_type w m.owner m.args t))

abbrev pub parameter_demands : Hierarchy → MethodRef → List Demand
parameter_demands w m = map (parameter_demand w m) m.sig.params

abbrev pub this_demands : Hierarchy → Option SigType → MethodRef → List Demand
this_demands w constrained m = if m.sig.has_this then object_demand w constrained (owner_in w m.owner) ∷ [] else []

abbrev pub call_row : Hierarchy → Option SigType → MethodRef → Row
call_row w constrained m =
    row (this_demands w constrained m ++ parameter_demands w m) (result w (member_type w m.owner m.args m.sig.ret))

abbrev pub new_row : Hierarchy → MethodRef → Row
new_row w m = row (parameter_demands w m) (pushes (stack_of w (owner_in w m.owner)))

-- ---- rows of other instructions

abbrev pub number_type : Number → Stack
number_type number_of.I4 = i4
number_type number_of.I8 = i8
number_type number_of.N = native
number_type number_of.F = float

-- the primitive type that an opcode has in its name
abbrev pub primitive_of : Numeric → Primitive
primitive_of numeric_type.I1 = prim.I1
primitive_of numeric_type.U1 = prim.U1
primitive_of numeric_type.I2 = prim.I2
primitive_of numeric_type.U2 = prim.U2
primitive_of numeric_type.I4 = prim.I4
primitive_of numeric_type.U4 = prim.U4
primitive_of numeric_type.I8 = prim.I8
primitive_of numeric_type.NInt = prim.NInt
primitive_of numeric_type.R4 = prim.R4
primitive_of numeric_type.R8 = prim.R8

-- its verification type
abbrev pub numeric_type_of : Numeric → SigType
numeric_type_of n = type.Prim (verified (primitive_of n))

-- a pointer to a value of that type
abbrev pub numeric_pointer : Numeric → Stack
numeric_pointer n = ptr (numeric_type_of n)

abbrev pub numeric_stack : Numeric → Stack
numeric_stack n = primitive_stack (primitive_of n)

-- a vector of elements of that type
abbrev pub numeric_vector : Numeric → Demand
numeric_vector n = vector_of (numeric_type_of n)

abbrev pub vector_type : SigType → Stack
vector_type t = ref (type.SzArray t)

-- the value type of the core that a token is loaded as (III.4.17)
abbrev pub handle_name : operand.Operand → List ℕ
handle_name (operand.TheVariants.Method m) = codes "RuntimeMethodHandle"
handle_name (operand.TheVariants.Field r) = codes "RuntimeFieldHandle"
handle_name o = codes "RuntimeTypeHandle"

abbrev pub handle : Hierarchy → operand.Operand → Stack
handle w o = val (type.Value (core_name w (system (handle_name o))))

-- a row of an instruction that names a type
abbrev pub type_row : Hierarchy → Operation → SigType → Row
type_row w does.LoadObject t = row (exactly (pointer_to w t) ∷ []) (pushes (stack_of w t))
type_row w does.StoreObject t = row (exactly (pointer_to w t) ∷ to (stack_of w t) ∷ []) []
type_row w does.CopyObject t = row (exactly (pointer_to w t) ∷ exactly (pointer_to w t) ∷ []) []
type_row w does.InitObject t = row (exactly (pointer_to w t) ∷ []) []
type_row w does.SizeOf t = row [] (pushes i4)
type_row w does.BoxValue t = row (to (stack_of w t) ∷ []) (pushes (boxed_of t))
type_row w does.Cast t = row (object ∷ []) (pushes (boxed_of t))
type_row w does.Unbox t = row (object ∷ []) (pushes (pointer_to w t))
type_row w does.UnboxAny t = row (object ∷ []) (pushes (stack_of w t))
type_row w does.NewArray t = row (index ∷ []) (pushes (vector_type t))
type_row w does.LoadElement t = row (to (vector_type t) ∷ index ∷ []) (pushes (stack_of w t))
type_row w does.ElementAddress t = row (to (vector_type t) ∷ index ∷ []) (pushes (pointer_to w t))
type_row w does.StoreElement t = row (to (vector_type t) ∷ index ∷ to (stack_of w t) ∷ []) []
type_row w o t = row [] []

-- a row of a call
abbrev pub method_row : Hierarchy → Option SigType → Operation → operand.Operand → Row
method_row w constrained does.NewObject (operand.TheVariants.Method m) = new_row w m
method_row w constrained o (operand.TheVariants.Method m) = call_row w constrained m
method_row w constrained o other = row [] []

abbrev pub named_field_row : Hierarchy → Option SigType → Operation → operand.Operand → Row
named_field_row w constrained o (operand.TheVariants.Field r) = field_row w constrained o r
named_field_row w constrained o other = row [] []

-- the row of an instruction, by its operation and the type that `constrained.` names before it
abbrev pub row_by : Frame → Option SigType → Ins → Operation → Row
row_by f constrained i does.Idle = row [] []
row_by f constrained i (does.Prefix p) = row [] []
row_by f constrained i does.LoadArgument = load_row f.types (argument f i)
row_by f constrained i does.StoreArgument = store_row f.types (argument f i)
row_by f constrained i does.ArgumentAddress = address_row f.types (argument f i)
row_by f constrained i does.LoadLocal = load_row f.types (local f i)
row_by f constrained i does.StoreLocal = store_row f.types (local f i)
row_by f constrained i does.LocalAddress = address_row f.types (local f i)
row_by f constrained i does.LoadNull = row [] (pushes null)
row_by f constrained i (does.LoadNumber n) = row [] (pushes (number_type n))
row_by f constrained i does.Duplicate = row (any ∷ []) (same ∷ same ∷ [])
row_by f constrained i does.Discard = row (any ∷ []) []
row_by f constrained i does.Arithmetic = pair_row numeric (computed numeric ∷ [])
row_by f constrained i does.IntegerArithmetic = pair_row integral (computed integral ∷ [])
row_by f constrained i does.Shift = row (integer ∷ index ∷ []) (same_integer ∷ [])
row_by f constrained i does.Negate = row (number ∷ []) (same_number ∷ [])
row_by f constrained i does.Complement = row (integer ∷ []) (same_integer ∷ [])
row_by f constrained i does.CompareEqual = pair_row equality (pushes i4)
row_by f constrained i does.CompareOrder = pair_row ordering (pushes i4)
row_by f constrained i does.BranchEqual = pair_row equality []
row_by f constrained i does.BranchOrder = pair_row ordering []
row_by f constrained i does.BranchIf = row (condition ∷ []) []
row_by f constrained i does.Branch = row [] []
row_by f constrained i does.Switch = row (exactly i4 ∷ []) []
row_by f constrained i (does.Convert n) = row (number ∷ []) (pushes (number_type n))
row_by f constrained i does.ConvertUnsigned = row (integer ∷ []) (pushes float)
row_by f constrained i does.CheckFinite = row (exactly float ∷ []) (pushes float)
row_by f constrained i (does.LoadIndirect n) = row (exactly (numeric_pointer n) ∷ []) (pushes (numeric_stack n))
row_by f constrained i does.LoadIndirectReference = row (object_pointer ∷ []) (pointed ∷ [])
row_by f constrained i (does.StoreIndirect n) = row (exactly (numeric_pointer n) ∷ exactly (numeric_stack n) ∷ []) []
row_by f constrained i does.StoreIndirectReference = storing
row_by f constrained i does.LoadFunction = row [] (pushes native)
row_by f constrained i does.LoadVirtualFunction = row (object ∷ []) (pushes native)
row_by f constrained i does.LoadString = row [] (pushes (ref (type.Prim prim.Str)))
row_by f constrained i does.LoadToken = row [] (pushes (handle f.types i.operand))
row_by f constrained i does.Throw = row (object ∷ []) []
row_by f constrained i does.LoadLength = row (vector ∷ []) (pushes native)
row_by f constrained i (does.LoadElementOf n) = row (numeric_vector n ∷ index ∷ []) (pushes (numeric_stack n))
row_by f constrained i (does.StoreElementOf n) = row (numeric_vector n ∷ index ∷ exactly (numeric_stack n) ∷ []) []
row_by f constrained i does.LoadElementReference = row (object_vector ∷ index ∷ []) (fetched ∷ [])
row_by f constrained i does.StoreElementReference = row (object_vector ∷ index ∷ object ∷ []) []
row_by f constrained i does.LoadField = named_field_row f.types constrained does.LoadField i.operand
row_by f constrained i does.FieldAddress = named_field_row f.types constrained does.FieldAddress i.operand
row_by f constrained i does.StoreField = named_field_row f.types constrained does.StoreField i.operand
row_by f constrained i does.LoadStatic = named_field_row f.types constrained does.LoadStatic i.operand
row_by f constrained i does.StaticAddress = named_field_row f.types constrained does.StaticAddress i.operand
row_by f constrained i does.StoreStatic = named_field_row f.types constrained does.StoreStatic i.operand
row_by f constrained i does.Call = method_row f.types constrained does.Call i.operand
row_by f constrained i does.CallVirtual = method_row f.types constrained does.CallVirtual i.operand
row_by f constrained i does.NewObject = method_row f.types constrained does.NewObject i.operand
row_by f constrained i does.Return = row (return_demands f.types f.returns) []
row_by f constrained i does.EndFilter = row (exactly i4 ∷ []) []
row_by f constrained i does.Leave = emptying
row_by f constrained i does.EndFinally = emptying
row_by f constrained i does.Rethrow = emptying
row_by f constrained i does.Unlisted = row [] []
row_by f constrained i o = type_row f.types o (named f i.operand)

-- ---- `constrained.`

abbrev pub operation_at : List Ins → ℕ → Option Operation
operation_at code k = option_and_then (λ (i : Ins). Some (operation i.op)) (slice_get code k)

abbrev pub constraint_by : Frame → Option SigType → Operation → operand.Operand → Option SigType
constraint_by f before (does.Prefix prefix.Constrained) o = Some (named f o)
constraint_by f before (does.Prefix p) o = before
constraint_by f before other o = None

abbrev pub constraint_of : Frame → Option SigType → Option Ins → Option SigType
constraint_of f before None = None
constraint_of f before (Some i) = constraint_by f before (operation i.op) i.operand

-- the type of the last `constrained.` in the run of prefixes directly before instruction `k` (III.2.1)
unfoldable pub constraint : Frame → ℕ → Option SigType
constraint f zero = None
constraint f (suc k) = constraint_of f (constraint f k) (slice_get f.code k)

-- ---- the row of instruction `k`

abbrev pub row_of : Frame → ℕ → Ins → Row
row_of f k i = row_by f (constraint f k) i (operation i.op)
