-- What the assemblies of a world declare (ECMA-335 I.8.5.2, II.10, II.14.3, II.22.37), and the hierarchy that comes of it.
use Rattle.std.specs.Prelude.{Bool, false, ◌&&◌, ◌||◌, not, nat_eq, bit_and, if◌then◌else◌, List, map, Option, None, Some, option_and_then}
use Rattle.std.specs.List.{flat_map, filter_map, find}
use Rattle.type_terms.specs.declared.name.Scope.{Scope}
use Rattle.type_terms.specs.declared.name.TypeId.{TypeId}
use Rattle.type_terms.specs.declared.name.TypeName.{TypeName}
use Rattle.type_terms.specs.declared.term.Primitive.{Primitive}
use Rattle.type_terms.specs.declared.term.Primitive.TheVariants as prim
use Rattle.type_terms.specs.declared.term.Owner.{Owner}
use Rattle.type_terms.specs.declared.term.Owner.TheOpen.{SigType-F, Prim, Class, Value, Inst, Var, MVar, SzArray, Array, ByRef, Pointer, Mod, Pinned}
use Rattle.type_terms.specs.declared.term.SigType.{SigType, out-SigType}
use Rattle.assembly_tree.specs.declared.members.Field.{Field}
use Rattle.assembly_tree.specs.declared.typedef.TypeDef.{TypeDef}
use Rattle.assembly_tree.specs.declared.typedef.TypeDef.TheOpen.{TypeDef-F}
use Rattle.assembly_tree.specs.declared.typedef.TypeDef.TheViews.{out-TypeDef}
use Rattle.assembly_tree.specs.DataSize.{type_at}
use Rattle.type_hierarchy.specs.Names.{same_path, same_scope, is_among, the_object, the_value_type, the_enum, is_integral}
use Rattle.type_hierarchy.specs.Scopes.{Sources, Member, members, core_of, scope_in, image_scope, member_of}
use Rattle.type_hierarchy.specs.Normal.{Reading, normal, normal_owner}
use Rattle.type_hierarchy.specs.ValueNames.{value_names}
use Rattle.type_hierarchy.specs.Hierarchy.{Hierarchy, Declaration, object}

-- ---- declarations

-- a type, with the assembly that declares it
pub record Place : Type 0 where
  pub member : Member
  pub typedef : TypeDef

abbrev pub place_in : Member → Option TypeDef → Option Place
place_in m None = None
place_in m (Some t) = Some (record { member = m; typedef = t })

-- where a name, with its scope, is declared: the assembly that the scope means is in the world and declares the path
unfoldable pub place_of : Sources → TypeName → Option Place
place_of s name = option_and_then (λ (m : Member). place_in m (type_at m.assembly.types name.path)) (member_of s name.scope)

-- ---- value types

abbrev pub no_values : TypeName → Bool
no_values name = false

-- to normalise a base where only its name matters
abbrev pub plain_in : Scope → (Scope → Scope) → Reading
plain_in core scope = record { core = core; scope = scope; is_value = no_values }

-- whether a name is that of a class of the core, which has that scope
abbrev pub is_class_of : Scope → List TypeId → TypeName → Bool
is_class_of core path name = same_scope name.scope core && same_path name.path path

abbrev pub is_core_class : Sources → List TypeId → TypeName → Bool
is_core_class s path name = is_class_of (core_of s) path name

abbrev pub layer_is_class : Scope → List TypeId → SigType-F Owner SigType → Bool
layer_is_class core path (Class name) = is_class_of core path name
layer_is_class core path (Prim p) = false
layer_is_class core path (Value name) = false
layer_is_class core path (Inst value name args) = false
layer_is_class core path (Var n) = false
layer_is_class core path (MVar n) = false
layer_is_class core path (SzArray of) = false
layer_is_class core path (Array of rank sizes lower) = false
layer_is_class core path (ByRef of) = false
layer_is_class core path (Pointer of) = false
layer_is_class core path (Mod required by of) = false
layer_is_class core path (Pinned of) = false

-- whether a base is that class of the core
abbrev pub base_is_in : Scope → (Scope → Scope) → List TypeId → Option Owner → Bool
base_is_in core scope path None = false
base_is_in core scope path (Some o) = layer_is_class core path (out-SigType (normal_owner (plain_in core scope) o))

abbrev pub base_is : Sources → List TypeId → Member → Option Owner → Bool
base_is s path m o = base_is_in (core_of s) (scope_in s m) path o

-- whether a type is declared with that class of the core as its base
abbrev pub has_base : Sources → List TypeId → Option Place → Bool
has_base s path None = false
has_base s path (Some p) = base_is s path p.member (out-TypeDef p.typedef).extends

-- the names that a signature of the world's assemblies has with `valuetype`
abbrev pub valuetype_names : Sources → List TypeName
valuetype_names s =
    flat_map (λ (m : Member). map (λ (n : TypeName). record { scope = scope_in s m n.scope; path = n.path }) (value_names m.assembly)) (members s)

-- A name, with its scope, is a value type where it is declared with the core's ValueType or Enum as its base, or where a
-- signature has it with `valuetype`; those two themselves are reference types.
unfoldable pub is_value_type : Sources → TypeName → Bool
is_value_type s name =
    not (is_core_class s the_enum name || is_core_class s the_value_type name)
    && (has_base s the_value_type (place_of s name) || has_base s the_enum (place_of s name) || is_among (valuetype_names s) name)

-- how the types of an assembly of the world are normalised
abbrev pub reading : Sources → Member → Reading
reading s m = record { core = core_of s; scope = scope_in s m; is_value = is_value_type s }

-- ---- bases and interfaces

-- a base that is neither a name, an instantiation, Object nor String counts as Object
abbrev pub counted_layer : SigType → SigType-F Owner SigType → SigType
counted_layer t (Class name) = t
counted_layer t (Value name) = t
counted_layer t (Inst value name args) = t
counted_layer t (Prim prim.Str) = t
counted_layer t (Prim p) = object
counted_layer t (Var n) = object
counted_layer t (MVar n) = object
counted_layer t (SzArray of) = object
counted_layer t (Array of rank sizes lower) = object
counted_layer t (ByRef of) = object
counted_layer t (Pointer of) = object
counted_layer t (Mod required by of) = object
counted_layer t (Pinned of) = object

abbrev pub counted : SigType → SigType
counted t = counted_layer t (out-SigType t)

abbrev pub base_in : Reading → Option Owner → Option SigType
base_in r None = None
base_in r (Some o) = Some (counted (normal_owner r o))

-- an interface that is neither a name nor an instantiation counts as none
abbrev pub interface_layer : SigType → SigType-F Owner SigType → Option SigType
interface_layer t (Class name) = Some t
interface_layer t (Value name) = Some t
interface_layer t (Inst value name args) = Some t
interface_layer t (Prim p) = None
interface_layer t (Var n) = None
interface_layer t (MVar n) = None
interface_layer t (SzArray of) = None
interface_layer t (Array of rank sizes lower) = None
interface_layer t (ByRef of) = None
interface_layer t (Pointer of) = None
interface_layer t (Mod required by of) = None
interface_layer t (Pinned of) = None

abbrev pub interface_in : Reading → Owner → Option SigType
interface_in r o = interface_layer (normal_owner r o) (out-SigType (normal_owner r o))

abbrev pub interfaces_in : Reading → List Owner → List SigType
interfaces_in r owners = filter_map (interface_in r) owners

-- ---- enums

-- whether a field is one of each value (II.23.1.5)
abbrev pub is_of_instances : Field → Bool
is_of_instances f = nat_eq (bit_and f.flags 0x10) 0

abbrev pub integral_layer : SigType-F Owner SigType → Option Primitive
integral_layer (Prim p) = if is_integral p then Some p else None
integral_layer (Class name) = None
integral_layer (Value name) = None
integral_layer (Inst value name args) = None
integral_layer (Var n) = None
integral_layer (MVar n) = None
integral_layer (SzArray of) = None
integral_layer (Array of rank sizes lower) = None
integral_layer (ByRef of) = None
integral_layer (Pointer of) = None
integral_layer (Mod required by of) = None
integral_layer (Pinned of) = None

-- the type of a field, where it is bool, char or an integer type
abbrev pub field_type : Reading → Option Field → Option Primitive
field_type r None = None
field_type r (Some f) = integral_layer (out-SigType (normal r f.of))

-- ---- the hierarchy

-- What a type's declaration says. The core's Object has no base, whatever its declaration says. A declared value type with
-- the core's Enum as its base is an enum; the type of its values is that of its first field that isn't static
abbrev pub declaration_by : Reading → Bool → Bool → TypeDef-F TypeDef → Declaration
declaration_by r is_object is_enum t = record {
  base = if is_object then None else base_in r t.extends;
  interfaces = interfaces_in r t.implements;
  underlying = if is_enum then field_type r (find is_of_instances t.fields) else None;
}

abbrev pub declaration_at : Sources → TypeName → Place → Declaration
declaration_at s name p =
    declaration_by (reading s p.member) (is_core_class s the_object name) (is_value_type s name && has_base s the_enum (Some p)) (out-TypeDef p.typedef)

unfoldable pub declaration_of : Sources → TypeName → Option Declaration
declaration_of s name = option_and_then (λ (p : Place). Some (declaration_at s name p)) (place_of s name)

-- what a world says of types
unfoldable pub hierarchy_of : Sources → Hierarchy
hierarchy_of s = record { core = core_of s; scope = image_scope s; is_value = is_value_type s; declared = declaration_of s }
