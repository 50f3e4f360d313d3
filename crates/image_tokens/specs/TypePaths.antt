-- How rows lead from a scope along a path, outermost type first (ECMA-335 II.22.32, II.22.38). A row's first cell is its scope,
-- the other two are its name and space; `inner` gives the scope of what a row encloses.
use Rattle.std.specs.Prelude.{◌≡◌, ℕ, ◌⊎◌, List, [], ◌∷◌, ◌++◌, Some, slice_get, sum_by}
use Rattle.heaps.specs.Heap.{Heap}
use Rattle.metadata_tables.specs.declared.coded.Coded.TheVariants.{ResolutionScope}
use Rattle.type_terms.specs.declared.name.TypeId.{TypeId}
use Rattle.image_tokens.specs.Indexes.{index_of}
use Rattle.image_tokens.specs.Rows.{IsRowAt}
use Rattle.image_tokens.specs.Texts.{HoldsId, id_size}
use Rattle.image_tokens.specs.declared.row_set.Cells.{Cells}

-- a row lies in a scope and has the name and the space of a type
pub record IsTypeRow (strings : Heap) (rows : List Cells) (scope : ℕ) (id : TypeId) (row : ℕ) : Type 0 where
  pub cells : Cells
  pub at : IsRowAt rows cells row
  pub scope_is : cells.first ≡ scope
  pub id_is : HoldsId strings id cells.second cells.third

-- the path leads from the scope to the row
pub data Follows (strings : Heap) (rows : List Cells) (inner : ℕ → ℕ) : ℕ → List TypeId → ℕ → Type 0 where
  last : {scope row : ℕ} {id : TypeId} {path : List TypeId} → IsTypeRow strings rows scope id row → path ≡ id ∷ []
      → Follows strings rows inner scope path row
  on : {scope row end : ℕ} {id : TypeId} {rest path : List TypeId} → IsTypeRow strings rows scope id row → path ≡ id ∷ rest
      → Follows strings rows inner (inner row) rest end → Follows strings rows inner scope path end

-- the scope of what a row of TypeRef encloses
abbrev pub in_reference : ℕ → ℕ
in_reference row = index_of ResolutionScope 0x01 row

-- the scope of what a declared type encloses, where rows tell their enclosers
abbrev pub in_declared : ℕ → ℕ
in_declared row = row

-- types, each in the one before it, lead from a scope to another
abbrev pub LeadsIn : Heap → List Cells → ℕ → List TypeId → ℕ → Type 0
LeadsIn strings rows scope [] inner = inner ≡ scope
LeadsIn strings rows scope (id ∷ ids) inner = (row : ℕ) × IsTypeRow strings rows scope id row × LeadsIn strings rows (in_reference row) ids inner

-- a row of TypeRef is that of one of the types of a path
pub record LiesOnPath (strings : Heap) (rows : List Cells) (scope : ℕ) (path : List TypeId) (cells : Cells) : Type 0 where
  pub before : List TypeId
  pub id : TypeId
  pub after : List TypeId
  pub is : path ≡ before ++ id ∷ after
  pub leads : LeadsIn strings rows scope before cells.first
  pub id_is : HoldsId strings id cells.second cells.third

-- each row that has been added is that of a type of a path
abbrev pub AddsPath : Heap → ℕ → List TypeId → List Cells → List Cells → Type 0
AddsPath strings scope path old new =
    (k : ℕ) (cells : Cells) → slice_get new k ≡ Some cells → (slice_get old k ≡ Some cells) ⊎ LiesOnPath strings new scope path cells

-- rows have been added at the end
pub record GoesOn (old new : List Cells) : Type 0 where
  pub more : List Cells
  pub is : new ≡ old ++ more

-- the bytes that the texts of a path take
abbrev pub path_size : List TypeId → ℕ
path_size path = sum_by id_size path
