-- Declared types, each name once, in the order in which they first come.
use Rattle.std.specs.Prelude.{◌≡◌, ◌⊎◌, ℕ, List, [], ◌∷◌, ◌++◌, fold, length, slice_get, Some}
use Rattle.std.specs.List.{Contains}
use Rattle.type_terms.specs.declared.name.Scope.{Scope}
use Rattle.type_terms.specs.declared.name.TypeId.{TypeId}
use Rattle.type_terms.specs.declared.name.TypeName.{TypeName}
use Rattle.assembly_tree.specs.declared.typedef.TypeDef.{TypeDef}
use Rattle.assembly_tree.specs.declared.typedef.TypeDef.TheViews.{out-TypeDef}
use Rattle.type_hierarchy.specs.Ancestors.{Paths}
use Rattle.type_hierarchy.specs.Gathered.{with_name}
use Rattle.type_hierarchy.specs.Names.{full_name}

-- the names of these paths below the path `outer` behind those that are there, unless they are among them
unfoldable pub placed : Scope → List TypeId → List TypeName → Paths → List TypeName
placed scope outer names paths = fold (λ (ns : List TypeName) (path : List TypeId). with_name ns (full_name scope (outer ++ path))) names paths

-- the type that a path leads to from these types on
pub data IsAt : List TypeDef → List TypeId → TypeDef → Type 0 where
  top : {ts : List TypeDef} {t : TypeDef} → Contains ts t → IsAt ts ((out-TypeDef t).id ∷ []) t
  inside : {ts : List TypeDef} {t u : TypeDef} {path : List TypeId} → Contains ts t → IsAt (out-TypeDef t).nested path u → IsAt ts ((out-TypeDef t).id ∷ path) u

-- types side by side with their names and the places of their assemblies
pub record Row : Type 0 where
  pub names : List TypeName
  pub members : List ℕ
  pub types : List TypeDef

pub record IsAligned (r : Row) : Type 0 where
  pub members : length r.members ≡ length r.names
  pub types : length r.types ≡ length r.names

-- what stands at a place
pub record Stands (r : Row) (k : ℕ) (name : TypeName) (member : ℕ) (t : TypeDef) : Type 0 where
  pub named : slice_get r.names k ≡ Some name
  pub in_member : slice_get r.members k ≡ Some member
  pub typed : slice_get r.types k ≡ Some t

-- a type that the types `ts` of an assembly hold, with its name and that assembly's place
pub record IsFrom (scope : Scope) (outer : List TypeId) (from : ℕ) (ts : List TypeDef) (name : TypeName) (member : ℕ) (t : TypeDef) : Type 0 where
  pub path : List TypeId
  pub named : name ≡ full_name scope (outer ++ path)
  pub in_member : member ≡ from
  pub at : IsAt ts path t

-- a row that was aligned stays so, and holds what it held at the same places, and beside it types from `ts`
pub record IsGrown (scope : Scope) (outer : List TypeId) (from : ℕ) (ts : List TypeDef) (old new : Row) : Type 0 where
  pub aligned : IsAligned old → IsAligned new
  pub each : IsAligned old → (k member : ℕ) (name : TypeName) (t : TypeDef) → Stands new k name member t
      → Stands old k name member t ⊎ IsFrom scope outer from ts name member t
