-- The conditions on names in a well-formed tree (ECMA-335 II.5.3, II.22.37, II.22.38), and words for lists that the other
-- conditions share.
use Rattle.std.specs.Prelude.{ℕ, ◌==◌, ◌&&◌, ◌||◌, Bool, true, false, not, nat_lt, nat_le, nat_eq, List, [], ◌∷◌, length, codes, Option, None, Some, is_some}
use Rattle.std.specs.List.{list_all, list_any}
use lib.Pointwise.{pointwise}
use Rattle.type_terms.specs.declared.name.Scope as scope
use Rattle.type_terms.specs.declared.name.TypeId.{TypeId}
use Rattle.type_terms.specs.declared.name.TypeName.{TypeName}
use Rattle.assembly_tree.specs.declared.assembly.Assembly.{Assembly}
use Rattle.assembly_tree.specs.DataSize.{type_at}

-- ---- lists

-- what is there passes
abbrev pub option_all : {X : Type 0} → (X → Bool) → Option X → Bool
option_all test None = true
option_all test (Some x) = test x

-- the item stands before the first of the others, where there is one
abbrev pub before_first : {X : Type 0} → (X → X → Bool) → X → List X → Bool
before_first before x [] = true
before_first before x (y ∷ more) = before x y

-- each item stands before the next
abbrev pub rises : {X : Type 0} → (X → X → Bool) → List X → Bool
rises before [] = true
rises before (x ∷ more) = before_first before x more && rises before more

-- no two items, at different places, are the same
abbrev pub all_differ : {X : Type 0} → (X → X → Bool) → List X → Bool
all_differ same [] = true
all_differ same (x ∷ more) = not (list_any (same x) more) && all_differ same more

-- ---- texts

-- a text without a zero byte, which would end it in the heap of texts (ECMA-335 II.24.2.3)
abbrev pub has_no_zero : List ℕ → Bool
has_no_zero text = list_all (λ byte. nat_lt 0 byte) text

-- a name that must not be empty
abbrev pub is_name : List ℕ → Bool
is_name text = nat_lt 0 (length text) && has_no_zero text

-- a type's space may be empty, its name may not
abbrev pub is_type_id : TypeId → Bool
is_type_id id = has_no_zero id.space && is_name id.name

-- ---- types by name

-- the type that holds what is declared outside of any class (ECMA-335 II.10.8)
abbrev pub is_module : TypeId → Bool
is_module id = length id.space == 0 && pointwise nat_eq id.name (codes "<Module>")

-- the root of all classes (ECMA-335 II.8.9.9)
abbrev pub is_system_object : TypeId → Bool
is_system_object id = pointwise nat_eq id.space (codes "System") && pointwise nat_eq id.name (codes "Object")

abbrev pub is_module_path : List TypeId → Bool
is_module_path [] = false
is_module_path (id ∷ []) = is_module id
is_module_path (id ∷ next ∷ more) = false

-- a path of this assembly leads to a type that it declares, or is `<Module>`
abbrev pub is_declared : Assembly → List TypeId → Bool
is_declared a path = is_module_path path || is_some (type_at a.types path)

-- a path of this assembly is declared, and the number of another one is that of an extern
abbrev pub is_known_in : Assembly → scope.Scope → List TypeId → Bool
is_known_in a scope.TheVariants.Here path = is_declared a path
is_known_in a (scope.TheVariants.Extern k) path = nat_lt k (length a.externs)

abbrev pub is_known : Assembly → TypeName → Bool
is_known a name = is_known_in a name.scope name.path

-- at most 100 names in a path
abbrev pub is_short_path : List TypeId → Bool
is_short_path path = nat_le (length path) 100

-- a type's name: known, with a path of at most 100 names, each of them one
unfoldable pub is_type_name : Assembly → TypeName → Bool
is_type_name a name = is_short_path name.path && list_all is_type_id name.path && is_known a name
