-- The tokens of the names of types (ECMA-335 II.22.37, II.22.38, III.1.9).
use Rattle.std.specs.Prelude.{◌≡◌, ℕ, ◌+◌, ◌^◌, ◌<◌, ◌⊎◌, ⊤, List, ◌++◌, Some, slice_get}
use Rattle.std.specs.List.{AllByRecursion}
use Rattle.heaps.specs.Heap.{Heap}
use Rattle.metadata_tables.specs.declared.coded.Coded.TheVariants.{ResolutionScope}
use Rattle.type_terms.specs.declared.name.Scope.{Scope}
use Rattle.type_terms.specs.declared.name.Scope.TheVariants.{Here, Extern}
use Rattle.type_terms.specs.declared.name.TypeId.{TypeId}
use Rattle.type_terms.specs.declared.name.TypeName.{TypeName}
use Rattle.image_tokens.specs.Indexes.{IsToken, index_of}
use Rattle.image_tokens.specs.TypePaths.{Follows, LiesOnPath, in_reference, in_declared}
use Rattle.image_tokens.specs.declared.row_set.Cells.{Cells}

-- the scope of the top-level types of an extern, by its number
abbrev pub in_extern : ℕ → ℕ
in_extern number = index_of ResolutionScope 0x23 (number + 1)

-- a token is that of a name: the row of TypeDef at its path, or that of TypeRef
pub data HasNameToken (strings : Heap) (declared referred : List Cells) (name : TypeName) : ℕ → Type 0 where
  of_declared : {row token : ℕ} → name.scope ≡ Here → Follows strings declared in_declared 0 name.path row → IsToken token 0x02 row
      → HasNameToken strings declared referred name token
  of_referred : {number row token : ℕ} → name.scope ≡ Extern number → Follows strings referred in_reference (in_extern number) name.path row
      → IsToken token 0x01 row → HasNameToken strings declared referred name token

-- a name in this assembly is declared, and the number of an extern is that of a row
abbrev pub NameableIn : Heap → List Cells → List TypeId → Scope → Type 0
NameableIn strings declared path Here = (end : ℕ) × Follows strings declared in_declared 0 path end
NameableIn strings declared path (Extern number) = number + 1 < 2 ^ 24

abbrev pub IsNameable : Heap → List Cells → TypeName → Type 0
IsNameable strings declared name = NameableIn strings declared name.path name.scope

-- the extern of a name is one of so many
abbrev pub IsScopeAmong : ℕ → Scope → Type 0
IsScopeAmong externs Here = ⊤
IsScopeAmong externs (Extern number) = number < externs

-- a row of TypeRef is that of a type on the path of a name
pub record LiesOn (strings : Heap) (rows : List Cells) (name : TypeName) (cells : Cells) : Type 0 where
  pub number : ℕ
  pub scope : name.scope ≡ Extern number
  pub path : LiesOnPath strings rows (in_extern number) name.path cells

-- each row that has been added is that of a type on the path of a name
abbrev pub AddsName : Heap → TypeName → List Cells → List Cells → Type 0
AddsName strings name old new =
    (k : ℕ) (cells : Cells) → slice_get new k ≡ Some cells → (slice_get old k ≡ Some cells) ⊎ LiesOn strings new name cells

-- each name that is known has its token
pub record AreNames (strings : Heap) (declared referred : List Cells) (known : List (TypeName × ℕ)) : Type 0 where
  pub each : AllByRecursion (λ e. HasNameToken strings declared referred e.0 e.1) known

-- terms with tokens have been added at the end
pub record Learns {T : Type 0} (old new : List (T × ℕ)) : Type 0 where
  pub more : List (T × ℕ)
  pub is : new ≡ old ++ more
