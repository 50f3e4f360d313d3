-- The classes of a source by the numbers of those around them (ECMA-335 II.10.6).
use Rattle.std.specs.Prelude.{◌≡◌, ℕ, ◌∷◌, List, Bool, Option, Some, slice_get, is_some}
use Rattle.std.specs.List.{list_any}
use Rattle.type_terms.specs.declared.name.TypeId.{TypeId}
use Rattle.assembly_tree.specs.DataSize.{is_id}
use Rattle.source_model.specs.Names.{is_path}
use Rattle.source_nodes.specs.Chains.{IsChained}
use Rattle.source_syntax.specs.Nested.{IsNested, child, is_child, reached}
use Rattle.source_nodes.specs.TextHash.{mix, mix_text_near, text_hash}
use Rattle.source_syntax.specs.declared.class_paths.ClassName.{ClassName}

abbrev pub outer_of : ClassName → ℕ
outer_of c = c.outer

abbrev pub id_of : ClassName → TypeId
id_of c = c.id

-- the class with this name that stands in the class of this number
abbrev pub class_of : ℕ → TypeId → ClassName
class_of outer id = record { outer = outer; id = id }

abbrev pub is_class : ℕ → TypeId → ClassName → Bool
is_class outer id c = is_child outer_of id_of is_id outer id c

-- the number of the first such class
abbrev pub class_in : List ClassName → TypeId → ℕ → Option ℕ
class_in cs id outer = child outer_of id_of is_id cs id outer

-- the number of the class with this path; 0 of the outside of all classes
abbrev pub class_numbered : List ClassName → List TypeId → Option ℕ
class_numbered cs path = reached outer_of id_of is_id cs path 0

-- a number of a class, or 0
abbrev pub IsNumber : List ClassName → ℕ → Type 0
IsNumber cs n = (path : List TypeId) × (class_numbered cs path ≡ Some n)

-- the paths of the classes are these
abbrev pub Knows : List ClassName → List (List TypeId) → Type 0
Knows cs paths = (id : TypeId) (more : List TypeId) → is_some (class_numbered cs (id ∷ more)) ≡ list_any (is_path (id ∷ more)) paths

-- the hash by which a class is found
unfoldable pub class_hash : ClassName → ℕ
class_hash c = mix_text_near (mix (text_hash c.id.space) c.outer) c.id.name

-- no class stands there twice
abbrev pub AreDistinct : List ClassName → Type 0
AreDistinct cs = (j k : ℕ) (c : ClassName) → slice_get cs j ≡ Some c → slice_get cs k ≡ Some c → j ≡ k

-- the classes with the way to find them
pub record AreFound (newest : ℕ → Option ℕ) (cs : List ClassName) (nexts : List (Option ℕ)) : Type 0 where
  pub chained : IsChained class_hash newest cs nexts
  pub distinct : AreDistinct cs
  pub nested : IsNested outer_of id_of is_id cs
