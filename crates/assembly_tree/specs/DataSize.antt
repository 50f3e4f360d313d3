-- How many bytes a value of a type has in data (ECMA-335 II.16.3), where that is stated: a primitive type by its width,
-- a value type of the assembly by the class size of its layout (II.10.1.2, II.22.8).
use Rattle.std.specs.Prelude.{ℕ, Bool, ◌&&◌, cond, List, [], ◌∷◌, Option, None, Some, nat_lt, nat_eq}
use Rattle.std.specs.List.{find}
use lib.Pointwise.{pointwise}
use Rattle.type_terms.specs.declared.name.Scope as scope
use Rattle.type_terms.specs.declared.name.TypeId.{TypeId}
use Rattle.type_terms.specs.declared.name.TypeName.{TypeName}
use Rattle.type_terms.specs.declared.term.Primitive as prim
use Rattle.type_terms.specs.declared.term.SigType.{SigType, fold-SigType}
use Rattle.type_terms.specs.declared.term.Owner.TheOpen.{Owner-F, SigType-F, Prim, Class, Value, Inst, Var, MVar, SzArray, Array, ByRef, Pointer, Mod, Pinned}
use Rattle.assembly_tree.specs.declared.assembly.Assembly.{Assembly}
use Rattle.assembly_tree.specs.declared.typedef.Layout.{Layout}
use Rattle.assembly_tree.specs.declared.typedef.TypeDef.{TypeDef}
use Rattle.assembly_tree.specs.declared.typedef.TypeDef.TheViews.{out-TypeDef}

-- ---- the type that a path leads to

abbrev pub is_id : TypeId → TypeId → Bool
is_id a b = pointwise nat_eq a.space b.space && pointwise nat_eq a.name b.name

abbrev pub has_id : TypeId → TypeDef → Bool
has_id id t = is_id id (out-TypeDef t).id

-- the first of the types with that space and name
abbrev pub named : TypeId → List TypeDef → Option TypeDef
named id types = find (has_id id) types

-- what comes of a type, where there is one
abbrev pub with_type : (TypeDef → Option TypeDef) → Option TypeDef → Option TypeDef
with_type go None = None
with_type go (Some t) = go t

-- the type that the rest of a path leads to from a type
abbrev pub type_below : List TypeId → TypeDef → Option TypeDef
type_below [] t = Some t
type_below (id ∷ more) t = with_type (type_below more) (named id (out-TypeDef t).nested)

-- the type that a path leads to from a list of types
abbrev pub type_at : List TypeDef → List TypeId → Option TypeDef
type_at types [] = None
type_at types (id ∷ more) = with_type (type_below more) (named id types)

-- the type that the assembly declares by a name, where it declares it
abbrev pub declared_in : List TypeDef → scope.Scope → List TypeId → Option TypeDef
declared_in types scope.TheVariants.Here path = type_at types path
declared_in types (scope.TheVariants.Extern k) path = None

abbrev pub declared : Assembly → TypeName → Option TypeDef
declared a name = declared_in a.types name.scope name.path

-- ---- sizes

abbrev pub primitive_size : prim.Primitive → Option ℕ
primitive_size prim.TheVariants.Bool = Some 1
primitive_size prim.TheVariants.I1 = Some 1
primitive_size prim.TheVariants.U1 = Some 1
primitive_size prim.TheVariants.Char = Some 2
primitive_size prim.TheVariants.I2 = Some 2
primitive_size prim.TheVariants.U2 = Some 2
primitive_size prim.TheVariants.I4 = Some 4
primitive_size prim.TheVariants.U4 = Some 4
primitive_size prim.TheVariants.R4 = Some 4
primitive_size prim.TheVariants.I8 = Some 8
primitive_size prim.TheVariants.U8 = Some 8
primitive_size prim.TheVariants.R8 = Some 8
primitive_size prim.TheVariants.Void = None
primitive_size prim.TheVariants.Str = None
primitive_size prim.TheVariants.Object = None
primitive_size prim.TheVariants.TypedRef = None
primitive_size prim.TheVariants.NInt = None
primitive_size prim.TheVariants.NUint = None

-- the class size of a layout, where that is above 0
abbrev pub layout_size : Option Layout → Option ℕ
layout_size None = None
layout_size (Some l) = cond (nat_lt 0 l.size) (Some l.size) None

abbrev pub type_size : Option TypeDef → Option ℕ
type_size None = None
type_size (Some t) = layout_size (out-TypeDef t).layout

-- an owner has no size of its own
abbrev pub no_size : Owner-F (Option ℕ) (Option ℕ) → Option ℕ
no_size o = None

abbrev pub size_step : Assembly → SigType-F (Option ℕ) (Option ℕ) → Option ℕ
size_step a (Prim p) = primitive_size p
size_step a (Value name) = type_size (declared a name)
size_step a (Mod required by of) = of
size_step a (Class name) = None
size_step a (Inst value name args) = None
size_step a (Var n) = None
size_step a (MVar n) = None
size_step a (SzArray of) = None
size_step a (Array of rank sizes lower) = None
size_step a (ByRef of) = None
size_step a (Pointer of) = None
size_step a (Pinned of) = None

-- the size of a type's values in data, where it is stated
abbrev pub size_in_data : Assembly → SigType → Option ℕ
size_in_data a t = fold-SigType (Option ℕ) (Option ℕ) no_size (size_step a) t
