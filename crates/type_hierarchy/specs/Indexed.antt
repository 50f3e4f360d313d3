-- Where the types that an assembly declares stand in its tree.
use Rattle.std.specs.Prelude.{◌≡◌, ℕ, true, List, [], ◌∷◌, ◌++◌, length, slice_get, Option, None, Some}
use Rattle.type_terms.specs.declared.name.Scope.TheVariants.{Here}
use Rattle.type_terms.specs.declared.name.TypeId.{TypeId}
use Rattle.assembly_tree.specs.declared.assembly.Assembly.{Assembly}
use Rattle.assembly_tree.specs.declared.typedef.TypeDef.{TypeDef}
use Rattle.assembly_tree.specs.declared.typedef.TypeDef.TheViews.{out-TypeDef}
use Rattle.assembly_tree.specs.DataSize.{named, type_at}
use Rattle.type_hierarchy.specs.Names.{full_name, is_among}
use Rattle.type_hierarchy.specs.declared.tables.Tables.{Tables}

abbrev pub nested_in : Option TypeDef → List TypeDef
nested_in None = []
nested_in (Some t) = (out-TypeDef t).nested

-- the types that the type of a path nests; those at the top, where the path is empty
abbrev pub types_at : List TypeDef → List TypeId → List TypeDef
types_at ts [] = ts
types_at ts (id ∷ more) = types_at (nested_in (named id ts)) more

-- Each type that the assembly declares is among the names of the tables; and beside the name of each type of it stands the
-- type's place among those that stand side by side with it.
pub record KnowsTypes (a : Assembly) (t : Tables) : Type 0 where
  pub paired : length t.indexes ≡ length t.names
  pub declared : (path : List TypeId) (u : TypeDef) → type_at a.types path ≡ Some u → is_among t.names (full_name Here path) ≡ true
  pub stands : (k index : ℕ) (outer : List TypeId) (id : TypeId) → slice_get t.names k ≡ Some (full_name Here (outer ++ id ∷ []))
      → slice_get t.indexes k ≡ Some index → slice_get (types_at a.types outer) index ≡ named id (types_at a.types outer)
