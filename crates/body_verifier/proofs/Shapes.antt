-- Which demands stand beside one on operands together.
use Rattle.std.proofs.Common.{◌≡◌, ℕ, [], ◌∷◌, refl, Option, None, Some}
use Rattle.type_terms.specs.declared.term.SigType.{SigType}
use Rattle.assembly_tree.specs.declared.body.Ins.{Ins}
use Rattle.assembly_tree.specs.declared.body.Operand as operand
use Rattle.type_hierarchy.specs.Hierarchy.{Hierarchy}
use Rattle.code_flow.specs.declared.operation.Operation.{Operation}
use Rattle.code_flow.specs.declared.operation.Operation.TheVariants as does
use Rattle.code_flow.specs.Frames.{Frame}
use Rattle.code_flow.specs.Operations.{operation}
use Rattle.code_flow.specs.Demands.{any, comparable, object_pointer, apart, paired, stored, Pairing}
use Rattle.code_flow.specs.Rows.{Row, row_of, row_by, load_row, store_row, argument, local, named_field_row, method_row, constraint}

pub data Shape (r : Row) : Type 0 where
  none : r.together ≡ apart → Shape r
  pair : {p : Pairing} → r.together ≡ paired p → r.operands ≡ comparable ∷ comparable ∷ [] → Shape r
  store : r.together ≡ stored → r.operands ≡ object_pointer ∷ any ∷ [] → Shape r

load_shape : (w : Hierarchy) (t : Option SigType) → Shape (load_row w t)
load_shape w None = none refl
load_shape w (Some t) = none refl

store_shape : (w : Hierarchy) (t : Option SigType) → Shape (store_row w t)
store_shape w None = none refl
store_shape w (Some t) = none refl

field_shape : (w : Hierarchy) (c : Option SigType) (o : Operation) (x : operand.Operand) → Shape (named_field_row w c o x)
field_shape w c does.LoadField (operand.TheVariants.Field r) = none refl
field_shape w c does.FieldAddress (operand.TheVariants.Field r) = none refl
field_shape w c does.StoreField (operand.TheVariants.Field r) = none refl
field_shape w c does.LoadStatic (operand.TheVariants.Field r) = none refl
field_shape w c does.StaticAddress (operand.TheVariants.Field r) = none refl
field_shape w c does.StoreStatic (operand.TheVariants.Field r) = none refl
field_shape w c o (operand.TheVariants.Field r) = none refl
field_shape w c o x = none refl

method_shape : (w : Hierarchy) (c : Option SigType) (o : Operation) (x : operand.Operand) → Shape (method_row w c o x)
method_shape w c does.NewObject (operand.TheVariants.Method m) = none refl
method_shape w c o (operand.TheVariants.Method m) = none refl
method_shape w c o x = none refl

by_operation : (f : Frame) (c : Option SigType) (i : Ins) (o : Operation) → Shape (row_by f c i o)
by_operation f c i does.Idle = none refl
by_operation f c i (does.Prefix p) = none refl
by_operation f c i does.LoadArgument = load_shape f.types (argument f i)
by_operation f c i does.StoreArgument = store_shape f.types (argument f i)
by_operation f c i does.ArgumentAddress = none refl
by_operation f c i does.LoadLocal = load_shape f.types (local f i)
by_operation f c i does.StoreLocal = store_shape f.types (local f i)
by_operation f c i does.LocalAddress = none refl
by_operation f c i does.LoadNull = none refl
by_operation f c i (does.LoadNumber n) = none refl
by_operation f c i does.Duplicate = none refl
by_operation f c i does.Discard = none refl
by_operation f c i does.Arithmetic = pair refl refl
by_operation f c i does.IntegerArithmetic = pair refl refl
by_operation f c i does.Shift = none refl
by_operation f c i does.Negate = none refl
by_operation f c i does.Complement = none refl
by_operation f c i does.CompareEqual = pair refl refl
by_operation f c i does.CompareOrder = pair refl refl
by_operation f c i does.BranchEqual = pair refl refl
by_operation f c i does.BranchOrder = pair refl refl
by_operation f c i does.BranchIf = none refl
by_operation f c i does.Branch = none refl
by_operation f c i does.Switch = none refl
by_operation f c i (does.Convert n) = none refl
by_operation f c i does.ConvertUnsigned = none refl
by_operation f c i does.CheckFinite = none refl
by_operation f c i (does.LoadIndirect n) = none refl
by_operation f c i does.LoadIndirectReference = none refl
by_operation f c i (does.StoreIndirect n) = none refl
by_operation f c i does.StoreIndirectReference = store refl refl
by_operation f c i does.LoadFunction = none refl
by_operation f c i does.LoadVirtualFunction = none refl
by_operation f c i does.LoadString = none refl
by_operation f c i does.LoadToken = none refl
by_operation f c i does.Throw = none refl
by_operation f c i does.LoadLength = none refl
by_operation f c i (does.LoadElementOf n) = none refl
by_operation f c i (does.StoreElementOf n) = none refl
by_operation f c i does.LoadElementReference = none refl
by_operation f c i does.StoreElementReference = none refl
by_operation f c i does.Return = none refl
by_operation f c i does.EndFilter = none refl
by_operation f c i does.Leave = none refl
by_operation f c i does.EndFinally = none refl
by_operation f c i does.Rethrow = none refl
by_operation f c i does.Unlisted = none refl
by_operation f c i does.LoadField = field_shape f.types c does.LoadField i.operand
by_operation f c i does.FieldAddress = field_shape f.types c does.FieldAddress i.operand
by_operation f c i does.StoreField = field_shape f.types c does.StoreField i.operand
by_operation f c i does.LoadStatic = field_shape f.types c does.LoadStatic i.operand
by_operation f c i does.StaticAddress = field_shape f.types c does.StaticAddress i.operand
by_operation f c i does.StoreStatic = field_shape f.types c does.StoreStatic i.operand
by_operation f c i does.Call = method_shape f.types c does.Call i.operand
by_operation f c i does.CallVirtual = method_shape f.types c does.CallVirtual i.operand
by_operation f c i does.NewObject = method_shape f.types c does.NewObject i.operand
by_operation f c i does.LoadObject = none refl
by_operation f c i does.StoreObject = none refl
by_operation f c i does.CopyObject = none refl
by_operation f c i does.InitObject = none refl
by_operation f c i does.SizeOf = none refl
by_operation f c i does.BoxValue = none refl
by_operation f c i does.Cast = none refl
by_operation f c i does.Unbox = none refl
by_operation f c i does.UnboxAny = none refl
by_operation f c i does.NewArray = none refl
by_operation f c i does.LoadElement = none refl
by_operation f c i does.ElementAddress = none refl
by_operation f c i does.StoreElement = none refl

pub shape_of : (f : Frame) (k : ℕ) (i : Ins) → Shape (row_of f k i)
shape_of f k i = by_operation f (constraint f k) i (operation i.op)
