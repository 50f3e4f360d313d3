-- Names of types, and those that the standard gives a meaning (ECMA-335 I.8.2.2, I.8.9.9, II.23.1.16).
use Rattle.std.specs.Prelude.{ℕ, Bool, true, false, ◌&&◌, nat_eq, List, [], ◌∷◌, codes}
use Rattle.std.specs.List.{list_any}
use lib.Pointwise.{pointwise}
use Rattle.type_terms.specs.declared.name.Scope.{Scope}
use Rattle.type_terms.specs.declared.name.Scope.TheVariants.{Here, Extern}
use Rattle.type_terms.specs.declared.name.TypeId.{TypeId}
use Rattle.type_terms.specs.declared.name.TypeName.{TypeName}
use Rattle.type_terms.specs.declared.term.Primitive.{Primitive}
use Rattle.type_terms.specs.declared.term.Primitive.TheVariants.{Void, Bool as Boolean, Char, I1, U1, I2, U2, I4, U4, I8, U8, R4, R8, Str, Object, TypedRef, NInt, NUint}

-- the name of a path in a scope
abbrev pub full_name : Scope → List TypeId → TypeName
full_name scope path = record { scope = scope; path = path }

-- ---- tests

abbrev pub same_text : List ℕ → List ℕ → Bool
same_text a b = pointwise nat_eq a b

abbrev pub same_id : TypeId → TypeId → Bool
same_id a b = same_text a.space b.space && same_text a.name b.name

abbrev pub same_path : List TypeId → List TypeId → Bool
same_path a b = pointwise same_id a b

abbrev pub same_scope : Scope → Scope → Bool
same_scope Here Here = true
same_scope Here (Extern k) = false
same_scope (Extern j) Here = false
same_scope (Extern j) (Extern k) = nat_eq j k

abbrev pub same_name : TypeName → TypeName → Bool
same_name a b = same_scope a.scope b.scope && same_path a.path b.path

-- whether a name is among these
abbrev pub is_among : List TypeName → TypeName → Bool
is_among names name = list_any (same_name name) names

-- ---- the core

-- the names that the assembly of the standard's own types goes by
abbrev pub core_names : List (List ℕ)
core_names = codes "mscorlib" ∷ codes "System.Runtime" ∷ codes "System.Private.CoreLib" ∷ codes "netstandard" ∷ []

abbrev pub is_core_name : List ℕ → Bool
is_core_name name = list_any (same_text name) core_names

-- the top-level type of that name in the space `System`
abbrev pub system : List ℕ → List TypeId
system name = record { space = codes "System"; name = name } ∷ []

abbrev pub the_object : List TypeId
the_object = system (codes "Object")

abbrev pub the_value_type : List TypeId
the_value_type = system (codes "ValueType")

abbrev pub the_enum : List TypeId
the_enum = system (codes "Enum")

abbrev pub the_delegate : List TypeId
the_delegate = system (codes "Delegate")

abbrev pub the_multicast_delegate : List TypeId
the_multicast_delegate = system (codes "MulticastDelegate")

abbrev pub the_array : List TypeId
the_array = system (codes "Array")

abbrev pub the_exception : List TypeId
the_exception = system (codes "Exception")

-- ---- the primitive types

-- the class of a primitive type, in the core
abbrev pub class_of : Primitive → List TypeId
class_of Void = system (codes "Void")
class_of Boolean = system (codes "Boolean")
class_of Char = system (codes "Char")
class_of I1 = system (codes "SByte")
class_of U1 = system (codes "Byte")
class_of I2 = system (codes "Int16")
class_of U2 = system (codes "UInt16")
class_of I4 = system (codes "Int32")
class_of U4 = system (codes "UInt32")
class_of I8 = system (codes "Int64")
class_of U8 = system (codes "UInt64")
class_of R4 = system (codes "Single")
class_of R8 = system (codes "Double")
class_of Str = system (codes "String")
class_of Object = the_object
class_of TypedRef = system (codes "TypedReference")
class_of NInt = system (codes "IntPtr")
class_of NUint = system (codes "UIntPtr")

-- the primitive types
abbrev pub primitives : List Primitive
primitives = Void ∷ Boolean ∷ Char ∷ I1 ∷ U1 ∷ I2 ∷ U2 ∷ I4 ∷ U4 ∷ I8 ∷ U8 ∷ R4 ∷ R8 ∷ Str ∷ Object ∷ TypedRef ∷ NInt ∷ NUint ∷ []

-- whether a type is bool, char or an integer type, the native ones included
abbrev pub is_integral : Primitive → Bool
is_integral Boolean = true
is_integral Char = true
is_integral I1 = true
is_integral U1 = true
is_integral I2 = true
is_integral U2 = true
is_integral I4 = true
is_integral U4 = true
is_integral I8 = true
is_integral U8 = true
is_integral NInt = true
is_integral NUint = true
is_integral Void = false
is_integral R4 = false
is_integral R8 = false
is_integral Str = false
is_integral Object = false
is_integral TypedRef = false
