-- What the steps towards the tables of a world find.
use Rattle.std.specs.Prelude.{◌≡◌, ℕ, List, length, slice_get, Some}
use Rattle.type_terms.specs.declared.name.TypeName.{TypeName}
use Rattle.type_hierarchy.specs.Ancestors.{declared_names}
use Rattle.type_hierarchy.specs.Declarations.{declaration_of, hierarchy_of, is_value_type}
use Rattle.type_hierarchy.specs.Reading.{value_by}
use Rattle.type_hierarchy.specs.Scopes.{Sources, core_of}
use Rattle.type_hierarchy.specs.Tables.{declaration, hierarchy_in}
use Rattle.type_hierarchy.specs.declared.tables.Declared.{Declared}
use Rattle.type_hierarchy.specs.declared.tables.Tables.{Tables}
use Rattle.type_hierarchy.specs.declared.values.Values.{Values}

-- `v` says which names are value types
pub record AreValues (s : Sources) (v : Values) : Type 0 where
  pub core : v.core ≡ core_of s
  pub each : (name : TypeName) → value_by v name ≡ is_value_type s name

-- each entry says what the declaration of the name at its place says
abbrev pub AreEntries : Sources → List TypeName → List Declared → Type 0
AreEntries s names entries = (j : ℕ) (name : TypeName) (d : Declared) → slice_get names j ≡ Some name → slice_get entries j ≡ Some d → declaration_of s name ≡ Some (declaration d)

-- the tables say what the world says of types, and have its declared names in its order
pub record AreTables (s : Sources) (t : Tables) : Type 0 where
  pub paired : length t.names ≡ length t.entries
  pub names : t.names ≡ declared_names s
  pub hierarchy : hierarchy_in t ≡ hierarchy_of s
