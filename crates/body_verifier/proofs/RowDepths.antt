-- No instruction pushes more than one value above what it takes, or two where it takes one.
use Rattle.std.proofs.Common.{◌≡◌, ◌⊎◌, inl, inr, refl, ap, ◌∙◌, ℕ, ◌+◌, ◌-◌, ◌<◌, ◌≤◌, arith, min, Bool, true, false, List, [], ◌∷◌, ◌++◌, map, length, take, Option, None, Some}
use Rattle.std.specs.Prelude.{if◌then◌else◌}
use Rattle.std.proofs.lemmas.Bool.{cases_lt}
use Rattle.std.proofs.lemmas.List.{length-append, length-take, length-map}
use Rattle.type_terms.specs.declared.reference.MethodRef.{MethodRef}
use Rattle.type_terms.specs.declared.term.Owner.{Owner}
use Rattle.type_terms.specs.declared.term.Owner.TheOpen.{SigType-F, Prim, Class, Value, Inst, Var, MVar, SzArray, Array, ByRef, Pointer, Mod, Pinned}
use Rattle.type_terms.specs.declared.term.Primitive.{Primitive}
use Rattle.type_terms.specs.declared.term.Primitive.TheVariants as prim
use Rattle.type_terms.specs.declared.term.SigType.{SigType, out-SigType}
use Rattle.assembly_tree.specs.declared.body.Ins.{Ins}
use Rattle.assembly_tree.specs.declared.body.Operand as operand
use Rattle.type_hierarchy.specs.Hierarchy.{Hierarchy}
use Rattle.type_hierarchy.specs.Stack.{Stack}
use Rattle.code_flow.specs.declared.operation.Operation.{Operation}
use Rattle.code_flow.specs.declared.operation.Operation.TheVariants as does
use Rattle.code_flow.specs.Frames.{Frame, member_type}
use Rattle.code_flow.specs.Operations.{operation}
use Rattle.code_flow.specs.Demands.{Demand}
use Rattle.code_flow.specs.Effects.{effect, left_with, results, below_operands, taken}
use Rattle.code_flow.specs.Rows.{Row, Pushed, given, row_of, row_by, load_row, store_row, argument, local, named_field_row, method_row, call_row, result, layer_result, constraint}

abbrev pub IsNarrow : List Demand → List Pushed → Type 0
IsNarrow ds [] = Unit {0}
IsNarrow ds (p ∷ []) = Unit {0}
IsNarrow (d ∷ []) (p ∷ q ∷ []) = Unit {0}
IsNarrow ds ps = ⊥

load_narrow : (w : Hierarchy) (t : Option SigType) → IsNarrow (load_row w t).operands (load_row w t).pushed
load_narrow w None = tt
load_narrow w (Some t) = tt

store_narrow : (w : Hierarchy) (t : Option SigType) → IsNarrow (store_row w t).operands (store_row w t).pushed
store_narrow w None = tt
store_narrow w (Some t) = tt

primitive_narrow : (w : Hierarchy) (ds : List Demand) (t : SigType) (p : Primitive) → IsNarrow ds (layer_result w t (Prim p))
primitive_narrow w ds t prim.Void = tt
primitive_narrow w ds t prim.Bool = tt
primitive_narrow w ds t prim.Char = tt
primitive_narrow w ds t prim.I1 = tt
primitive_narrow w ds t prim.U1 = tt
primitive_narrow w ds t prim.I2 = tt
primitive_narrow w ds t prim.U2 = tt
primitive_narrow w ds t prim.I4 = tt
primitive_narrow w ds t prim.U4 = tt
primitive_narrow w ds t prim.I8 = tt
primitive_narrow w ds t prim.U8 = tt
primitive_narrow w ds t prim.R4 = tt
primitive_narrow w ds t prim.R8 = tt
primitive_narrow w ds t prim.Str = tt
primitive_narrow w ds t prim.Object = tt
primitive_narrow w ds t prim.TypedRef = tt
primitive_narrow w ds t prim.NInt = tt
primitive_narrow w ds t prim.NUint = tt

result_narrow : (w : Hierarchy) (ds : List Demand) (t : SigType) (layer : SigType-F Owner SigType) → IsNarrow ds (layer_result w t layer)
result_narrow w ds t (Prim p) = primitive_narrow w ds t p
result_narrow w ds t (Class name) = tt
result_narrow w ds t (Value name) = tt
result_narrow w ds t (Inst value name args) = tt
result_narrow w ds t (Var n) = tt
result_narrow w ds t (MVar n) = tt
result_narrow w ds t (SzArray of) = tt
result_narrow w ds t (Array of rank sizes lower) = tt
result_narrow w ds t (ByRef of) = tt
result_narrow w ds t (Pointer of) = tt
result_narrow w ds t (Mod required by of) = tt
result_narrow w ds t (Pinned of) = tt

field_narrow : (w : Hierarchy) (c : Option SigType) (o : Operation) (x : operand.Operand) → IsNarrow (named_field_row w c o x).operands (named_field_row w c o x).pushed
field_narrow w c does.LoadField (operand.TheVariants.Field r) = tt
field_narrow w c does.FieldAddress (operand.TheVariants.Field r) = tt
field_narrow w c does.StoreField (operand.TheVariants.Field r) = tt
field_narrow w c does.LoadStatic (operand.TheVariants.Field r) = tt
field_narrow w c does.StaticAddress (operand.TheVariants.Field r) = tt
field_narrow w c does.StoreStatic (operand.TheVariants.Field r) = tt
field_narrow w c o (operand.TheVariants.Field r) = tt
field_narrow w c o x = tt

method_narrow : (w : Hierarchy) (c : Option SigType) (o : Operation) (x : operand.Operand) → IsNarrow (method_row w c o x).operands (method_row w c o x).pushed
method_narrow w c does.NewObject (operand.TheVariants.Method m) = tt
method_narrow w c o (operand.TheVariants.Method m) =
    result_narrow w (call_row w c m).operands (member_type w m.owner m.args m.sig.ret) (out-SigType (member_type w m.owner m.args m.sig.ret))
method_narrow w c o x = tt

by_operation : (f : Frame) (c : Option SigType) (i : Ins) (o : Operation) → IsNarrow (row_by f c i o).operands (row_by f c i o).pushed
by_operation f c i does.LoadArgument = load_narrow f.types (argument f i)
by_operation f c i does.StoreArgument = store_narrow f.types (argument f i)
by_operation f c i does.LoadLocal = load_narrow f.types (local f i)
by_operation f c i does.StoreLocal = store_narrow f.types (local f i)
by_operation f c i does.LoadField = field_narrow f.types c does.LoadField i.operand
by_operation f c i does.FieldAddress = field_narrow f.types c does.FieldAddress i.operand
by_operation f c i does.StoreField = field_narrow f.types c does.StoreField i.operand
by_operation f c i does.LoadStatic = field_narrow f.types c does.LoadStatic i.operand
by_operation f c i does.StaticAddress = field_narrow f.types c does.StaticAddress i.operand
by_operation f c i does.StoreStatic = field_narrow f.types c does.StoreStatic i.operand
by_operation f c i does.Call = method_narrow f.types c does.Call i.operand
by_operation f c i does.CallVirtual = method_narrow f.types c does.CallVirtual i.operand
by_operation f c i does.NewObject = method_narrow f.types c does.NewObject i.operand
by_operation f c i o = tt

left_length : (r : Row) (s : List Stack) → length (effect r s) ≤ (length s - length r.operands) + length r.pushed
left_length r s = by_emptied r.empties where
  by_emptied : (b : Bool) → length (if b then [] else below_operands (length r.operands) s ++ results r s) ≤ (length s - length r.operands) + length r.pushed
  by_emptied true = omega arith
  by_emptied false =
      omega (arith, length-append (below_operands (length r.operands) s) (results r s), length-take (length s - length r.operands) s, length-map r.pushed (given (taken r s)))

narrow_length : (ds : List Demand) (ps : List Pushed) (n : ℕ) → IsNarrow ds ps → ((n - length ds) + length ps ≤ n + 1) ⊎ ((n - length ds) + length ps ≤ 2)
narrow_length ds [] n h = inl (omega arith)
narrow_length ds (p ∷ []) n h = inl (omega arith)
narrow_length (d ∷ []) (p ∷ q ∷ []) n h = elim (cases_lt 0 n) [ inl some ↦ inl (omega arith) | inr none ↦ inr (omega arith) ]
narrow_length [] (p ∷ q ∷ []) n h = absurd h
narrow_length (d ∷ e ∷ ds) (p ∷ q ∷ []) n h = absurd h
narrow_length [] (p ∷ q ∷ r ∷ ps) n h = absurd h
narrow_length (d ∷ []) (p ∷ q ∷ r ∷ ps) n h = absurd h
narrow_length (d ∷ e ∷ ds) (p ∷ q ∷ r ∷ ps) n h = absurd h

pub effect_length : (f : Frame) (k : ℕ) (i : Ins) (s : List Stack) (n : ℕ) → length s ≤ n → 1 ≤ n → length (effect (row_of f k i) s) ≤ n + 1
effect_length f k i s n h some =
    let r = row_of f k i in
    let e = left_length r s in
    elim (narrow_length r.operands r.pushed (length s) (by_operation f (constraint f k) i (operation i.op))) [ inl low ↦ omega arith | inr low ↦ omega arith ]
