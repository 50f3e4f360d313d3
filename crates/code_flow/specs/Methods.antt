-- The methods of an assembly by their places, and what is declared (ECMA-335 II.10, II.15, II.16).
use Rattle.std.specs.Prelude.{◌≡◌, ℕ, Bool, not, nat_eq, bit_and, List, [], ◌∷◌, ◌++◌, length, slice_get, is_some, if◌then◌else◌, Option, None, Some, option_and_then}
use Rattle.std.specs.List.{Contains, flat_map, enumerate_from}
use Rattle.type_terms.specs.declared.name.TypeId.{TypeId}
use Rattle.type_terms.specs.declared.reference.FieldRef.{FieldRef}
use Rattle.assembly_tree.specs.declared.assembly.Assembly.{Assembly}
use Rattle.assembly_tree.specs.declared.members.Field.{Field}
use Rattle.assembly_tree.specs.declared.members.Method.{Method}
use Rattle.assembly_tree.specs.declared.typedef.MethodPath.{MethodPath}
use Rattle.assembly_tree.specs.declared.typedef.TypeDef.{TypeDef}
use Rattle.assembly_tree.specs.declared.typedef.TypeDef.TheOpen.{TypeDef-F}
use Rattle.assembly_tree.specs.declared.typedef.TypeDef.TheFolds.{fold-TypeDef}
use Rattle.assembly_tree.specs.declared.typedef.TypeDef.TheViews.{out-TypeDef}
use Rattle.type_hierarchy.specs.Hierarchy.{Hierarchy}
use Rattle.type_order.specs.Fields.{the_module, fields_meant}

-- ---- a method by its place

-- a method with its type: the type's path, and the number of its generic parameters
pub record Declared : Type 0 where
  pub path : List TypeId
  pub parameters : ℕ
  pub method : Method

-- a type with the path that leads to it
pub record Nested : Type 0 where
  pub path : List TypeId
  pub typedef : TypeDef

abbrev pub nested_in : List TypeId → Option TypeDef → Option Nested
nested_in outer None = None
nested_in outer (Some t) = Some (record { path = outer ++ (out-TypeDef t).id ∷ []; typedef = t })

-- the type that the places lead to, inwards from a type
abbrev pub inwards : List ℕ → Nested → Option Nested
inwards [] t = Some t
inwards (k ∷ ks) t = option_and_then (inwards ks) (nested_in t.path (slice_get (out-TypeDef t.typedef).nested k))

abbrev pub type_by_place : Assembly → List ℕ → Option Nested
type_by_place a [] = None
type_by_place a (k ∷ ks) = option_and_then (inwards ks) (nested_in [] (slice_get a.types k))

abbrev pub declared_in : List TypeId → ℕ → Option Method → Option Declared
declared_in path parameters None = None
declared_in path parameters (Some m) = Some (record { path = path; parameters = parameters; method = m })

abbrev pub method_of : ℕ → Nested → Option Declared
method_of k t = declared_in t.path (length (out-TypeDef t.typedef).generics) (slice_get (out-TypeDef t.typedef).methods k)

-- places that are empty lead to `<Module>`
abbrev pub method_by : Assembly → List ℕ → ℕ → Option Declared
method_by a [] k = declared_in the_module 0 (slice_get a.methods k)
method_by a (t ∷ ts) k = option_and_then (method_of k) (type_by_place a (t ∷ ts))

unfoldable pub method_at : Assembly → MethodPath → Option Declared
method_at a path = method_by a path.types path.method

-- ---- all of them

-- the places of the methods with a body in a list of methods
abbrev pub with_body : List ℕ → ℕ × Method → List MethodPath
with_body types (k, m) = if is_some m.body then record { types = types; method = k } ∷ [] else []

abbrev pub places_in : List ℕ → List Method → List MethodPath
places_in types methods = flat_map (with_body types) (enumerate_from 0 methods)

-- of a type, by its own places: its methods, and then those of the types that it nests
abbrev pub preorder : TypeDef-F (List ℕ → List MethodPath) → List ℕ → List MethodPath
preorder t types = places_in types t.methods ++ flat_map (λ (k, places). places (types ++ k ∷ [])) (enumerate_from 0 t.nested)

abbrev pub typedef_places : ℕ × TypeDef → List MethodPath
typedef_places (k, t) = fold-TypeDef (List ℕ → List MethodPath) preorder t (k ∷ [])

-- the methods with a body: those of `<Module>`, and then those of the types in preorder
unfoldable pub all_methods : Assembly → List MethodPath
all_methods a = places_in [] a.methods ++ flat_map typedef_places (enumerate_from 0 a.types)

-- ---- fields

-- The image declares the field: it is one of the type that the reference's owner means in the world, and its name and type are
-- those of the reference as they are written.
pub record DeclaresField (a : Assembly) (w : Hierarchy) (r : FieldRef) (field : Field) : Type 0 where
  pub here : Contains (fields_meant a w r.owner) field
  pub name : field.name ≡ r.name
  pub type : field.of ≡ r.of

-- whether a field is one of the type itself and not of each value (II.23.1.5)
abbrev pub is_static : Field → Bool
is_static f = not (nat_eq (bit_and f.flags 0x10) 0)
