-- Types of values on the evaluation stack (ECMA-335 III.1.1, I.12.3.2.1), and those that the values of a type have there.
use Rattle.std.specs.Prelude.{Bool, true, false, not, Option, None, Some}
use Rattle.type_terms.specs.declared.term.Primitive.{Primitive}
use Rattle.type_terms.specs.declared.term.Primitive.TheVariants as prim
use Rattle.type_terms.specs.declared.term.Owner.{Owner}
use Rattle.type_terms.specs.declared.term.Owner.TheOpen.{SigType-F, Prim, Class, Value, Inst, Var, MVar, SzArray, Array, ByRef, Pointer, Mod, Pinned}
use Rattle.type_terms.specs.declared.term.SigType.{SigType, out-SigType}
use Rattle.type_terms.specs.declared.term.SigType.TheVariants as type
use Rattle.type_hierarchy.specs.Hierarchy.{Hierarchy, underlying}

-- int32, int64, native int, float, null, a reference to a type, a boxed type, a value of a type, a managed pointer to a
-- type, and what is none of these
pub data Stack : Type 0 where
  i4 : Stack
  i8 : Stack
  native : Stack
  float : Stack
  null : Stack
  ref : SigType → Stack
  boxed : SigType → Stack
  val : SigType → Stack
  ptr : SigType → Stack
  bad : Stack

-- ---- reference types

abbrev pub is_reference_primitive : Primitive → Bool
is_reference_primitive prim.Str = true
is_reference_primitive prim.Object = true
is_reference_primitive p = false

abbrev pub layer_is_reference : SigType-F Owner SigType → Bool
layer_is_reference (Prim p) = is_reference_primitive p
layer_is_reference (Class name) = true
layer_is_reference (Inst value name args) = not value
layer_is_reference (SzArray of) = true
layer_is_reference (Array of rank sizes lower) = true
layer_is_reference (Value name) = false
layer_is_reference (Var n) = false
layer_is_reference (MVar n) = false
layer_is_reference (ByRef of) = false
layer_is_reference (Pointer of) = false
layer_is_reference (Mod required by of) = false
layer_is_reference (Pinned of) = false

-- string, object, classes and interfaces, vectors and arrays; a generic variable is none (I.8.2.1)
unfoldable pub is_reference : SigType → Bool
is_reference t = layer_is_reference (out-SigType t)

-- ---- what other primitive types count as

-- the primitive type that bool, char and unsigned types are verified as (I.8.7.1, verification types)
abbrev pub verified : Primitive → Primitive
verified prim.Bool = prim.I1
verified prim.U1 = prim.I1
verified prim.Char = prim.I2
verified prim.U2 = prim.I2
verified prim.U4 = prim.I4
verified prim.U8 = prim.I8
verified prim.NUint = prim.NInt
verified p = p

-- the signed type of an unsigned one (I.8.7.1, reduced types)
abbrev pub signed : Primitive → Primitive
signed prim.U1 = prim.I1
signed prim.U2 = prim.I2
signed prim.U4 = prim.I4
signed prim.U8 = prim.I8
signed prim.NUint = prim.NInt
signed p = p

abbrev pub layer_primitive : SigType-F Owner SigType → Option Primitive
layer_primitive (Prim p) = Some p
layer_primitive (Class name) = None
layer_primitive (Value name) = None
layer_primitive (Inst value name args) = None
layer_primitive (Var n) = None
layer_primitive (MVar n) = None
layer_primitive (SzArray of) = None
layer_primitive (Array of rank sizes lower) = None
layer_primitive (ByRef of) = None
layer_primitive (Pointer of) = None
layer_primitive (Mod required by of) = None
layer_primitive (Pinned of) = None

-- the primitive type that a type is
unfoldable pub primitive : SigType → Option Primitive
primitive t = layer_primitive (out-SigType t)

abbrev pub or_else : Option Primitive → Option Primitive → Option Primitive
or_else (Some p) other = Some p
or_else None other = other

-- the primitive type that a type counts as: of an enum its underlying type
unfoldable pub counts_as : Hierarchy → SigType → Option Primitive
counts_as w t = or_else (underlying w t) (primitive t)

-- any type that counts as no primitive one stays
abbrev pub changed : (Primitive → Primitive) → SigType → Option Primitive → SigType
changed change t (Some p) = type.Prim (change p)
changed change t None = t

-- v(T): the verification type
unfoldable pub verification_type : Hierarchy → SigType → SigType
verification_type w t = changed verified t (counts_as w t)

-- r(T): the reduced type
unfoldable pub reduced_type : Hierarchy → SigType → SigType
reduced_type w t = changed signed t (counts_as w t)

-- ---- st(T)

abbrev pub primitive_stack : Primitive → Stack
primitive_stack prim.Void = bad
primitive_stack prim.Bool = i4
primitive_stack prim.Char = i4
primitive_stack prim.I1 = i4
primitive_stack prim.U1 = i4
primitive_stack prim.I2 = i4
primitive_stack prim.U2 = i4
primitive_stack prim.I4 = i4
primitive_stack prim.U4 = i4
primitive_stack prim.I8 = i8
primitive_stack prim.U8 = i8
primitive_stack prim.R4 = float
primitive_stack prim.R8 = float
primitive_stack prim.Str = ref (type.Prim prim.Str)
primitive_stack prim.Object = ref (type.Prim prim.Object)
primitive_stack prim.TypedRef = bad
primitive_stack prim.NInt = native
primitive_stack prim.NUint = native

abbrev pub instance_stack : Bool → SigType → Stack
instance_stack true t = val t
instance_stack false t = ref t

abbrev pub layer_stack : Hierarchy → SigType → SigType-F Owner SigType → Stack
layer_stack w t (Prim p) = primitive_stack p
layer_stack w t (Class name) = ref t
layer_stack w t (Value name) = val t
layer_stack w t (Inst value name args) = instance_stack value t
layer_stack w t (Var n) = val t
layer_stack w t (MVar n) = val t
layer_stack w t (SzArray of) = ref t
layer_stack w t (Array of rank sizes lower) = ref t
layer_stack w t (ByRef of) = ptr (verification_type w of)
layer_stack w t (Pointer of) = native
layer_stack w t (Mod required by of) = bad
layer_stack w t (Pinned of) = bad

-- of a type that is no enum
unfoldable pub plain_stack : Hierarchy → SigType → Stack
plain_stack w t = layer_stack w t (out-SigType t)

abbrev pub stack_by : Hierarchy → SigType → Option Primitive → Stack
stack_by w t (Some p) = primitive_stack p
stack_by w t None = plain_stack w t

-- st(T): what a value of the type is on the stack
unfoldable pub stack_of : Hierarchy → SigType → Stack
stack_of w t = stack_by w t (underlying w t)

-- ptr v(T): a managed pointer to the type
abbrev pub pointer_to : Hierarchy → SigType → Stack
pointer_to w t = ptr (verification_type w t)

abbrev pub boxed_by : Bool → SigType → Stack
boxed_by true t = ref t
boxed_by false t = boxed t

-- rf(T): what a value of the type is as an object (III.4.1)
abbrev pub boxed_of : SigType → Stack
boxed_of t = boxed_by (is_reference t) t
