-- Every row asks only what a lower type meets where a higher one does.
use Rattle.std.proofs.Common.{◌≡◌, ℕ, zero, suc, Bool, true, false, List, [], ◌∷◌, ◌++◌, map, refl, Option, None, Some}
use Rattle.std.specs.Prelude.{slice_get, if◌then◌else◌}
use Rattle.type_terms.specs.declared.reference.MethodRef.{MethodRef}
use Rattle.type_terms.specs.declared.term.Owner.TheOpen.{Prim}
use Rattle.type_terms.specs.declared.term.SigType.{SigType}
use Rattle.assembly_tree.specs.declared.body.Ins.{Ins}
use Rattle.assembly_tree.specs.declared.body.Operand as operand
use Rattle.type_hierarchy.specs.Hierarchy.{Hierarchy}
use Rattle.type_hierarchy.specs.Stack.{is_reference, pointer_to, ref, val}
use Rattle.code_flow.specs.declared.operation.Numeric.{Numeric}
use Rattle.code_flow.specs.declared.operation.Numeric.TheVariants as numeric_type
use Rattle.code_flow.specs.declared.operation.Operation.{Operation}
use Rattle.code_flow.specs.declared.operation.Operation.TheVariants as does
use Rattle.code_flow.specs.Frames.{Frame, owner_in}
use Rattle.code_flow.specs.Operations.{operation}
use Rattle.code_flow.specs.Demands.{Demand, to, exactly, one_of}
use Rattle.code_flow.specs.Rows.{Pushed, always, row_of, row_by, load_row, store_row, argument, local, object_demand, loaded_demand, named_field_row, method_row, call_row, this_demands, parameter_demands, parameter_demand, result, demand_of, numeric_stack, constraint}
use Rattle.body_verifier.proofs.Monotone.{Sound, is_firm}

abbrev pub AllSound : List Demand → Type 0
AllSound [] = Unit {0}
AllSound (d ∷ ds) = Sound d × AllSound ds

pub sound_at : (ds : List Demand) → AllSound ds → (n : ℕ) (d : Demand) → slice_get ds n ≡ Some d → Sound d
sound_at [] a n d h = absurd (let f : ⊥ = cc in f)
sound_at (e ∷ ds) a zero d h = let is : e ≡ d = cc in rw (← is) a.0
sound_at (e ∷ ds) a (suc n) d h = sound_at ds a.1 n d h

all_append : (xs ys : List Demand) → AllSound xs → AllSound ys → AllSound (xs ++ ys)
all_append [] ys a b = b
all_append (x ∷ xs) ys a b = (a.0, all_append xs ys a.1 b)

firm_numeric : (n : Numeric) → is_firm (numeric_stack n) ≡ true
firm_numeric numeric_type.I1 = refl
firm_numeric numeric_type.U1 = refl
firm_numeric numeric_type.I2 = refl
firm_numeric numeric_type.U2 = refl
firm_numeric numeric_type.I4 = refl
firm_numeric numeric_type.U4 = refl
firm_numeric numeric_type.I8 = refl
firm_numeric numeric_type.NInt = refl
firm_numeric numeric_type.R4 = refl
firm_numeric numeric_type.R8 = refl

store_sound : (w : Hierarchy) (t : Option SigType) → AllSound (store_row w t).operands
store_sound w None = (tt, tt)
store_sound w (Some t) = (tt, tt)

load_sound : (w : Hierarchy) (t : Option SigType) → AllSound (load_row w t).operands
load_sound w None = tt
load_sound w (Some t) = tt

object_by : (w : Hierarchy) (owner : SigType) (b : Bool) → Sound (if b then to (ref owner) else exactly (pointer_to w owner))
object_by w owner true = tt
object_by w owner false = refl

loaded_by : (w : Hierarchy) (owner : SigType) (b : Bool) → Sound (if b then to (ref owner) else one_of (pointer_to w owner) (val owner))
loaded_by w owner true = tt
loaded_by w owner false = (refl, refl)

object_sound : (w : Hierarchy) (c : Option SigType) (owner : SigType) → Sound (object_demand w c owner)
object_sound w None owner = object_by w owner (is_reference owner)
object_sound w (Some t) owner = refl

loaded_sound : (w : Hierarchy) (c : Option SigType) (owner : SigType) → Sound (loaded_demand w c owner)
loaded_sound w None owner = loaded_by w owner (is_reference owner)
loaded_sound w (Some t) owner = refl

parameters_sound : (w : Hierarchy) (m : MethodRef) (ts : List SigType) → AllSound (map (parameter_demand w m) ts)
parameters_sound w m [] = tt
parameters_sound w m (t ∷ ts) = (tt, parameters_sound w m ts)

this_sound : (w : Hierarchy) (c : Option SigType) (m : MethodRef) (b : Bool) → AllSound (if b then object_demand w c (owner_in w m.owner) ∷ [] else [])
this_sound w c m true = (object_sound w c (owner_in w m.owner), tt)
this_sound w c m false = tt

call_sound : (w : Hierarchy) (c : Option SigType) (m : MethodRef) → AllSound (call_row w c m).operands
call_sound w c m = all_append (this_demands w c m) (parameter_demands w m) (this_sound w c m m.sig.has_this) (parameters_sound w m m.sig.params)

returned_sound : (ps : List Pushed) → AllSound (map demand_of ps)
returned_sound [] = tt
returned_sound (p ∷ ps) = (one p, returned_sound ps) where
  one : (q : Pushed) → Sound (demand_of q)
  one (always s) = tt
  one q = tt

field_sound : (w : Hierarchy) (c : Option SigType) (o : Operation) (x : operand.Operand) → AllSound (named_field_row w c o x).operands
field_sound w c does.LoadField (operand.TheVariants.Field r) = (loaded_sound w c (owner_in w r.owner), tt)
field_sound w c does.FieldAddress (operand.TheVariants.Field r) = (object_sound w c (owner_in w r.owner), tt)
field_sound w c does.StoreField (operand.TheVariants.Field r) = (object_sound w c (owner_in w r.owner), (tt, tt))
field_sound w c does.LoadStatic (operand.TheVariants.Field r) = tt
field_sound w c does.StaticAddress (operand.TheVariants.Field r) = tt
field_sound w c does.StoreStatic (operand.TheVariants.Field r) = (tt, tt)
field_sound w c o (operand.TheVariants.Field r) = tt
field_sound w c o x = tt

method_sound : (w : Hierarchy) (c : Option SigType) (o : Operation) (x : operand.Operand) → AllSound (method_row w c o x).operands
method_sound w c does.NewObject (operand.TheVariants.Method m) = parameters_sound w m m.sig.params
method_sound w c o (operand.TheVariants.Method m) = call_sound w c m
method_sound w c o x = tt

by_operation : (f : Frame) (c : Option SigType) (i : Ins) (o : Operation) → AllSound (row_by f c i o).operands
by_operation f c i does.Idle = tt
by_operation f c i (does.Prefix p) = tt
by_operation f c i does.LoadArgument = load_sound f.types (argument f i)
by_operation f c i does.StoreArgument = store_sound f.types (argument f i)
by_operation f c i does.ArgumentAddress = tt
by_operation f c i does.LoadLocal = load_sound f.types (local f i)
by_operation f c i does.StoreLocal = store_sound f.types (local f i)
by_operation f c i does.LocalAddress = tt
by_operation f c i does.LoadNull = tt
by_operation f c i (does.LoadNumber n) = tt
by_operation f c i does.Duplicate = (tt, tt)
by_operation f c i does.Discard = (tt, tt)
by_operation f c i does.Arithmetic = (tt, (tt, tt))
by_operation f c i does.IntegerArithmetic = (tt, (tt, tt))
by_operation f c i does.Shift = (tt, (tt, tt))
by_operation f c i does.Negate = (tt, tt)
by_operation f c i does.Complement = (tt, tt)
by_operation f c i does.CompareEqual = (tt, (tt, tt))
by_operation f c i does.CompareOrder = (tt, (tt, tt))
by_operation f c i does.BranchEqual = (tt, (tt, tt))
by_operation f c i does.BranchOrder = (tt, (tt, tt))
by_operation f c i does.BranchIf = (tt, tt)
by_operation f c i does.Branch = tt
by_operation f c i does.Switch = (refl, tt)
by_operation f c i (does.Convert n) = (tt, tt)
by_operation f c i does.ConvertUnsigned = (tt, tt)
by_operation f c i does.CheckFinite = (refl, tt)
by_operation f c i (does.LoadIndirect n) = (refl, tt)
by_operation f c i does.LoadIndirectReference = (tt, tt)
by_operation f c i (does.StoreIndirect n) = (refl, (firm_numeric n, tt))
by_operation f c i does.StoreIndirectReference = (tt, (tt, tt))
by_operation f c i does.LoadFunction = tt
by_operation f c i does.LoadVirtualFunction = (tt, tt)
by_operation f c i does.LoadString = tt
by_operation f c i does.LoadToken = tt
by_operation f c i does.Throw = (tt, tt)
by_operation f c i does.LoadLength = (tt, tt)
by_operation f c i (does.LoadElementOf n) = (record { of = n; is = refl }, (tt, tt))
by_operation f c i (does.StoreElementOf n) = (record { of = n; is = refl }, (tt, (firm_numeric n, tt)))
by_operation f c i does.LoadElementReference = (tt, (tt, tt))
by_operation f c i does.StoreElementReference = (tt, (tt, (tt, tt)))
by_operation f c i does.Return = returned_sound (result f.types f.returns)
by_operation f c i does.EndFilter = (refl, tt)
by_operation f c i does.Leave = tt
by_operation f c i does.EndFinally = tt
by_operation f c i does.Rethrow = tt
by_operation f c i does.Unlisted = tt
by_operation f c i does.LoadField = field_sound f.types c does.LoadField i.operand
by_operation f c i does.FieldAddress = field_sound f.types c does.FieldAddress i.operand
by_operation f c i does.StoreField = field_sound f.types c does.StoreField i.operand
by_operation f c i does.LoadStatic = field_sound f.types c does.LoadStatic i.operand
by_operation f c i does.StaticAddress = field_sound f.types c does.StaticAddress i.operand
by_operation f c i does.StoreStatic = field_sound f.types c does.StoreStatic i.operand
by_operation f c i does.Call = method_sound f.types c does.Call i.operand
by_operation f c i does.CallVirtual = method_sound f.types c does.CallVirtual i.operand
by_operation f c i does.NewObject = method_sound f.types c does.NewObject i.operand
by_operation f c i does.LoadObject = (refl, tt)
by_operation f c i does.StoreObject = (refl, (tt, tt))
by_operation f c i does.CopyObject = (refl, (refl, tt))
by_operation f c i does.InitObject = (refl, tt)
by_operation f c i does.SizeOf = tt
by_operation f c i does.BoxValue = (tt, tt)
by_operation f c i does.Cast = (tt, tt)
by_operation f c i does.Unbox = (tt, tt)
by_operation f c i does.UnboxAny = (tt, tt)
by_operation f c i does.NewArray = (tt, tt)
by_operation f c i does.LoadElement = (tt, (tt, tt))
by_operation f c i does.ElementAddress = (tt, (tt, tt))
by_operation f c i does.StoreElement = (tt, (tt, (tt, tt)))

pub sound_row : (f : Frame) (k : ℕ) (i : Ins) → AllSound (row_of f k i).operands
sound_row f k i = by_operation f (constraint f k) i (operation i.op)
