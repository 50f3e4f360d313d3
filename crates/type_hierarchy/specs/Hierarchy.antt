-- What a world says of types, and what follows from it for every type: its parent, its interfaces, and what lies above it
-- (ECMA-335 I.8.7, I.8.9.9 to I.8.9.11, I.8.10). The types here are normalised.
use Rattle.std.specs.Prelude.{◌≡◌, ℕ, Bool, true, false, if◌then◌else◌, List, [], map, Option, None, Some, unwrap_or, option_and_then}
use Rattle.std.specs.List.{Contains}
use Rattle.type_terms.specs.declared.name.Scope.{Scope}
use Rattle.type_terms.specs.declared.name.TypeId.{TypeId}
use Rattle.type_terms.specs.declared.name.TypeName.{TypeName}
use Rattle.type_terms.specs.declared.term.Primitive.{Primitive}
use Rattle.type_terms.specs.declared.term.Primitive.TheVariants as prim
use Rattle.type_terms.specs.declared.term.Owner.{Owner}
use Rattle.type_terms.specs.declared.term.Owner.TheOpen.{SigType-F, Prim, Class, Value, Inst, Var, MVar, SzArray, Array, ByRef, Pointer, Mod, Pinned}
use Rattle.type_terms.specs.declared.term.SigType.{SigType, out-SigType}
use Rattle.type_terms.specs.declared.term.SigType.TheVariants as type
use Rattle.sig_pool.specs.Replaced.{replaced}
use Rattle.type_hierarchy.specs.Names.{same_scope, same_path, class_of, the_object, the_value_type, the_enum, the_delegate, the_multicast_delegate, the_array, the_exception}

-- what the declaration of a type says: its base, unless it has none or is the core's Object; the interfaces that it
-- implements; and, of an enum, the type that its values have. `!n` stands for the type's own parameters
pub record Declaration : Type 0 where
  pub base : Option SigType
  pub interfaces : List SigType
  pub underlying : Option Primitive

-- the scope of the core, what a scope of the image means, which names are value types, and the declared types
pub record Hierarchy : Type 0 where
  pub core : Scope
  pub scope : Scope → Scope
  pub is_value : TypeName → Bool
  pub declared : TypeName → Option Declaration

abbrev pub object : SigType
object = type.Prim prim.Object

-- a type of the core by its path
abbrev pub core_name : Hierarchy → List TypeId → TypeName
core_name w path = record { scope = w.core; path = path }

-- a name as a type, by whether it is a value type
abbrev pub named_by : Bool → TypeName → SigType
named_by true name = type.Value name
named_by false name = type.Class name

abbrev pub named : Hierarchy → TypeName → SigType
named w name = named_by (w.is_value name) name

-- ---- parents

-- the core chains: Enum, ValueType, Object; MulticastDelegate, Delegate, Object; String, Array and Exception under Object
abbrev pub chain_above : List TypeId → Option (List TypeId)
chain_above path =
    if same_path path the_enum then Some the_value_type
    else if same_path path the_value_type then Some the_object
    else if same_path path the_multicast_delegate then Some the_delegate
    else if same_path path the_delegate then Some the_object
    else if same_path path (class_of prim.Str) then Some the_object
    else if same_path path the_array then Some the_object
    else if same_path path the_exception then Some the_object
    else None

-- the name above one in its core chain, where the core has that scope
abbrev pub chained_in : Scope → TypeName → Option TypeName
chained_in core name =
    if same_scope name.scope core then option_and_then (λ path. Some (record { scope = core; path = path })) (chain_above name.path) else None

abbrev pub chained : Hierarchy → TypeName → Option TypeName
chained w name = chained_in w.core name

-- a name that may be that of Object as a type
abbrev pub as_parent : Hierarchy → TypeName → SigType
as_parent w name = if same_path name.path the_object then object else named w name

-- of a type that isn't declared: the next of its core chain, or else Object
abbrev pub chain_parent : Hierarchy → Option TypeName → SigType
chain_parent w None = object
chain_parent w (Some name) = as_parent w name

-- of the type of a name, from the next of its core chain and its declaration: its base, or else Object
abbrev pub parent_by : Hierarchy → Option TypeName → Option Declaration → SigType
parent_by w next None = chain_parent w next
parent_by w next (Some d) = unwrap_or d.base object

abbrev pub name_parent : Hierarchy → TypeName → Option Declaration → SigType
name_parent w name d = parent_by w (chained w name) d

-- of an instantiation: its base, the arguments put in
abbrev pub instance_parent : List SigType → Option Declaration → SigType
instance_parent args None = object
instance_parent args (Some d) = replaced args [] (unwrap_or d.base object)

-- of a primitive type: that of its class in the core. Object has none
abbrev pub primitive_parent : Hierarchy → Primitive → Option SigType
primitive_parent w prim.Object = None
primitive_parent w p = let name = core_name w (class_of p) in Some (name_parent w name (w.declared name))

abbrev pub layer_parent : Hierarchy → SigType-F Owner SigType → Option SigType
layer_parent w (Prim p) = primitive_parent w p
layer_parent w (Class name) = Some (name_parent w name (w.declared name))
layer_parent w (Value name) = Some (name_parent w name (w.declared name))
layer_parent w (Inst value name args) = Some (instance_parent args (w.declared name))
layer_parent w (SzArray of) = Some (named w (core_name w the_array))
layer_parent w (Array of rank sizes lower) = Some (named w (core_name w the_array))
layer_parent w (Var n) = Some object
layer_parent w (MVar n) = Some object
layer_parent w (ByRef of) = Some object
layer_parent w (Pointer of) = Some object
layer_parent w (Mod required by of) = Some object
layer_parent w (Pinned of) = Some object

-- the parent of a type; Object alone has none
unfoldable pub parent : Hierarchy → SigType → Option SigType
parent w t = layer_parent w (out-SigType t)

-- ---- interfaces

abbrev pub declared_interfaces : Option Declaration → List SigType
declared_interfaces None = []
declared_interfaces (Some d) = d.interfaces

abbrev pub layer_interfaces : Hierarchy → SigType-F Owner SigType → List SigType
layer_interfaces w (Prim p) = declared_interfaces (w.declared (core_name w (class_of p)))
layer_interfaces w (Class name) = declared_interfaces (w.declared name)
layer_interfaces w (Value name) = declared_interfaces (w.declared name)
layer_interfaces w (Inst value name args) = map (replaced args []) (declared_interfaces (w.declared name))
layer_interfaces w (SzArray of) = []
layer_interfaces w (Array of rank sizes lower) = []
layer_interfaces w (Var n) = []
layer_interfaces w (MVar n) = []
layer_interfaces w (ByRef of) = []
layer_interfaces w (Pointer of) = []
layer_interfaces w (Mod required by of) = []
layer_interfaces w (Pinned of) = []

-- the interfaces that a type's own declaration lists, its arguments put in
unfoldable pub interfaces : Hierarchy → SigType → List SigType
interfaces w t = layer_interfaces w (out-SigType t)

-- ---- what lies above a type

-- the least set that holds `t` and, with each member, its parent and its interfaces
pub data Up (w : Hierarchy) (t : SigType) : SigType → Type 0 where
  itself : Up w t t
  to_parent : {s u : SigType} → Up w t s → parent w s ≡ Some u → Up w t u
  to_interface : {s u : SigType} → Up w t s → Contains (interfaces w s) u → Up w t u

-- the least set that holds `t` and, with each member, its parent: `t` and its ancestors
pub data Chain (w : Hierarchy) (t : SigType) : SigType → Type 0 where
  alone : Chain w t t
  further : {s u : SigType} → Chain w t s → parent w s ≡ Some u → Chain w t u

-- ---- arrays, enums and reference types

-- the element of a vector or an array, with the rank of the array: none is that of a vector
pub record Elements : Type 0 where
  pub rank : Option ℕ
  pub of : SigType

abbrev pub layer_elements : SigType-F Owner SigType → Option Elements
layer_elements (SzArray of) = Some (record { rank = None; of = of })
layer_elements (Array of rank sizes lower) = Some (record { rank = Some rank; of = of })
layer_elements (Prim p) = None
layer_elements (Class name) = None
layer_elements (Value name) = None
layer_elements (Inst value name args) = None
layer_elements (Var n) = None
layer_elements (MVar n) = None
layer_elements (ByRef of) = None
layer_elements (Pointer of) = None
layer_elements (Mod required by of) = None
layer_elements (Pinned of) = None

unfoldable pub elements : SigType → Option Elements
elements t = layer_elements (out-SigType t)

abbrev pub declared_underlying : Option Declaration → Option Primitive
declared_underlying None = None
declared_underlying (Some d) = d.underlying

abbrev pub instance_underlying : Bool → Option Declaration → Option Primitive
instance_underlying true d = declared_underlying d
instance_underlying false d = None

abbrev pub layer_underlying : Hierarchy → SigType-F Owner SigType → Option Primitive
layer_underlying w (Value name) = declared_underlying (w.declared name)
layer_underlying w (Inst value name args) = instance_underlying value (w.declared name)
layer_underlying w (Prim p) = None
layer_underlying w (Class name) = None
layer_underlying w (Var n) = None
layer_underlying w (MVar n) = None
layer_underlying w (SzArray of) = None
layer_underlying w (Array of rank sizes lower) = None
layer_underlying w (ByRef of) = None
layer_underlying w (Pointer of) = None
layer_underlying w (Mod required by of) = None
layer_underlying w (Pinned of) = None

-- the type that the values of an enum have
unfoldable pub underlying : Hierarchy → SigType → Option Primitive
underlying w t = layer_underlying w (out-SigType t)
