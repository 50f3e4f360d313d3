-- Where the types that an assembly declares stand in its tree, on the way through it.
use Rattle.std.specs.Prelude.{◌≡◌, ◌⊎◌, ℕ, List, [], ◌∷◌, ◌++◌, length, slice_get, Some}
use Rattle.std.specs.List.{Contains}
use Rattle.type_terms.specs.declared.name.Scope.{Scope}
use Rattle.type_terms.specs.declared.name.Scope.TheVariants.{Here}
use Rattle.type_terms.specs.declared.name.TypeId.{TypeId}
use Rattle.type_terms.specs.declared.name.TypeName.{TypeName}
use Rattle.assembly_tree.specs.declared.typedef.TypeDef.{TypeDef}
use Rattle.assembly_tree.specs.declared.typedef.TypeDef.TheViews.{out-TypeDef}
use Rattle.type_hierarchy.specs.Names.{full_name}
use Rattle.type_tables.specs.declared.places.Places.{Places}

-- from these types on, a path leads to a type at that place among those side by side
pub data StandsAt : List TypeDef → List TypeId → ℕ → Type 0 where
  at_top : {ts : List TypeDef} {t : TypeDef} {index : ℕ} → slice_get ts index ≡ Some t → StandsAt ts ((out-TypeDef t).id ∷ []) index
  below : {ts : List TypeDef} {t : TypeDef} {path : List TypeId} {index : ℕ} → Contains ts t → StandsAt (out-TypeDef t).nested path index
      → StandsAt ts ((out-TypeDef t).id ∷ path) index

-- at place `k` stand that name and that index
pub record IsNumbered (p : Places) (k : ℕ) (name : TypeName) (index : ℕ) : Type 0 where
  pub named : slice_get p.names k ≡ Some name
  pub indexed : slice_get p.indexes k ≡ Some index

-- a type that the types `ts` hold, which the type of the path `outer` nests, with its name and its place
pub record IsInside (scope : Scope) (outer : List TypeId) (ts : List TypeDef) (name : TypeName) (index : ℕ) : Type 0 where
  pub path : List TypeId
  pub named : name ≡ full_name scope (outer ++ path)
  pub at : StandsAt ts path index

abbrev pub IsPaired : Places → Type 0
IsPaired p = length p.indexes ≡ length p.names

-- what was there stands at the same places, and beside it types from `ts`
pub record IsIndexed (scope : Scope) (outer : List TypeId) (ts : List TypeDef) (old new : Places) : Type 0 where
  pub paired : IsPaired old → IsPaired new
  pub each : IsPaired old → (k index : ℕ) (name : TypeName) → IsNumbered new k name index → IsNumbered old k name index ⊎ IsInside scope outer ts name index

-- beside each name of the image's types `ts` stands the type's place
pub record AreIndexed (ts : List TypeDef) (p : Places) : Type 0 where
  pub paired : IsPaired p
  pub each : (k index : ℕ) (path : List TypeId) → IsNumbered p k (full_name Here path) index → StandsAt ts path index
