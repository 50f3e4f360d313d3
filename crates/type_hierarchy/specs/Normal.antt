-- Normalised types: modifiers and `pinned` fall away, scopes are what they mean, each name is `class` or `valuetype` as it
-- is a value type or not, and the core's names of primitive types are the primitive types (ECMA-335 I.8.2.2, II.23.1.16,
-- II.23.2.7).
use Rattle.std.specs.Prelude.{Bool, if◌then◌else◌, List, Option, None, Some}
use Rattle.std.specs.List.{find}
use Rattle.type_terms.specs.declared.name.Scope.{Scope}
use Rattle.type_terms.specs.declared.name.TypeId.{TypeId}
use Rattle.type_terms.specs.declared.name.TypeName.{TypeName}
use Rattle.type_terms.specs.declared.term.Primitive.{Primitive}
use Rattle.type_terms.specs.declared.term.Owner.{Owner, out-Owner}
use Rattle.type_terms.specs.declared.term.Owner.TheOpen.{Owner-F, SigType-F, Name, Spec, Prim, Class, Value, Inst, Var, MVar, SzArray, Array, ByRef, Pointer, Mod, Pinned}
use Rattle.type_terms.specs.declared.term.SigType.{SigType, fold-SigType}
use Rattle.type_terms.specs.declared.term.SigType.TheVariants as type
use Rattle.type_hierarchy.specs.Names.{same_scope, same_path, class_of, primitives}

-- what is wanted to normalise: the core's scope, what scopes mean, and which names, with that scope, are value types
pub record Reading : Type 0 where
  pub core : Scope
  pub scope : Scope → Scope
  pub is_value : TypeName → Bool

abbrev pub meant : Reading → TypeName → TypeName
meant r name = record { scope = r.scope name.scope; path = name.path }

abbrev pub has_class : List TypeId → Primitive → Bool
has_class path p = same_path path (class_of p)

-- the primitive type whose class a name is
abbrev pub primitive_of : Scope → TypeName → Option Primitive
primitive_of core name = if same_scope name.scope core then find (has_class name.path) primitives else None

abbrev pub name_or_primitive : Reading → TypeName → Option Primitive → SigType
name_or_primitive r name (Some p) = type.Prim p
name_or_primitive r name None = if r.is_value name then type.Value name else type.Class name

-- a name that has its scope, as a type
abbrev pub named_type : Reading → TypeName → SigType
named_type r name = name_or_primitive r name (primitive_of r.core name)

abbrev pub normal_instance : Reading → TypeName → List SigType → SigType
normal_instance r name args = type.Inst (r.is_value name) name args

-- one layer, whose children are normalised
abbrev pub normal_step : Reading → SigType-F SigType SigType → SigType
normal_step r (Prim p) = type.Prim p
normal_step r (Class name) = named_type r (meant r name)
normal_step r (Value name) = named_type r (meant r name)
normal_step r (Inst value name args) = normal_instance r (meant r name) args
normal_step r (Var n) = type.Var n
normal_step r (MVar n) = type.MVar n
normal_step r (SzArray of) = type.SzArray of
normal_step r (Array of rank sizes lower) = type.Array of rank sizes lower
normal_step r (ByRef of) = type.ByRef of
normal_step r (Pointer of) = type.Pointer of
normal_step r (Mod required by of) = of
normal_step r (Pinned of) = of

abbrev pub normal_owner_step : Reading → Owner-F SigType SigType → SigType
normal_owner_step r (Name name) = named_type r (meant r name)
normal_owner_step r (Spec of) = of

unfoldable pub normal : Reading → SigType → SigType
normal r t = fold-SigType SigType SigType (normal_owner_step r) (normal_step r) t

abbrev pub layer_normal_owner : Reading → Owner-F Owner SigType → SigType
layer_normal_owner r (Name name) = named_type r (meant r name)
layer_normal_owner r (Spec of) = normal r of

-- what an owner names, normalised
unfoldable pub normal_owner : Reading → Owner → SigType
normal_owner r o = layer_normal_owner r (out-Owner o)
