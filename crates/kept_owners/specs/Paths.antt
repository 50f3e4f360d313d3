-- The path of a type or of a reference, row by row: from the row outward along what encloses it (II.22.32) or along its scopes (II.22.38).
use Rattle.std.specs.Prelude.{◌≡◌, ℕ, ◌-◌, ◌≤◌, ◌⊎◌, ◌==◌, if◌then◌else◌, List, [], ◌∷◌, ◌++◌, Option, Some, None, Contains, length}
use Rattle.heaps.specs.Content.{HasText}
use Rattle.metadata_tables.specs.CodedIndex.{unpacked}
use Rattle.metadata_tables.specs.Stream.{cell}
use Rattle.metadata_tables.specs.declared.coded.Coded.TheVariants.{ResolutionScope}
use Rattle.type_terms.specs.declared.name.Scope.{Scope}
use Rattle.type_terms.specs.declared.name.Scope.TheVariants.{Here, Extern}
use Rattle.type_terms.specs.declared.name.TypeId.{TypeId}
use Rattle.image_model.specs.Columns.{type_ref_scope}
use Rattle.image_model.specs.Naming.{HasPath, HasRefPath}
use Rattle.image_model.specs.Rows.{HasRow, enclosing}
use Rattle.image_model.specs.Streams.{tables_of, strings_of}
use Rattle.image_model.specs.Structure.{max_path}

-- ---- what a row names

-- the tables TypeRef and TypeDef
abbrev pub IsTypeTable : ℕ → Type 0
IsTypeTable table = (table ≡ 0x02) ⊎ (table ≡ 0x01)

-- a row of TypeDef or of TypeRef names a type by where its path begins and the path
pub data RowNamesType (image : List ℕ) : (table row : ℕ) → Scope → List TypeId → Type 0 where
  defined : {table row : ℕ} {path : List TypeId} → table ≡ 0x02 → HasRow image 0x02 row → HasPath image row path → RowNamesType image table row Here path
  referred : {table row : ℕ} {scope : Scope} {path : List TypeId} → table ≡ 0x01 → HasRow image 0x01 row → HasRefPath image row scope path
      → RowNamesType image table row scope path

-- so it does by a path of at most so many names
abbrev pub IsNamedWithin : List ℕ → ℕ → (table row : ℕ) → Type 0
IsNamedWithin image most table row = (scope : Scope) × (path : List TypeId) × RowNamesType image table row scope path × (length path ≤ most)

-- by one of at most 100 names
abbrev pub IsShort : List ℕ → (table row : ℕ) → Type 0
IsShort image table row = IsNamedWithin image max_path table row

-- ---- the rows of a path

-- the row of a reference to which a scope leads, or 0
abbrev pub scope_row : Option (ℕ × ℕ) → ℕ
scope_row None = 0
scope_row (Some named) = if named.0 == 0x01 then named.1 else 0

-- the row under which a row lies: the type that encloses a type, the reference that is a reference's scope; or 0
abbrev pub outer_of : List ℕ → (table row : ℕ) → ℕ
outer_of image table row = if table == 0x02 then enclosing image row else scope_row (unpacked ResolutionScope (type_ref_scope image row))

-- these are the rows of the path of a row, from itself outward
abbrev pub AreOutward : List ℕ → (table row : ℕ) → List ℕ → Type 0
AreOutward image table row [] = row ≡ 0
AreOutward image table row (first ∷ rows) = (first ≡ row) × HasRow image table row × AreOutward image table (outer_of image table row) rows

-- rows of a table
abbrev pub AreRows : List ℕ → ℕ → List ℕ → Type 0
AreRows image table rows = (row : ℕ) → Contains rows row → HasRow image table row

-- the last of some rows
abbrev pub last_of : List ℕ → ℕ
last_of [] = 0
last_of (row ∷ []) = row
last_of (row ∷ next ∷ rows) = last_of (next ∷ rows)

-- ---- what stands in them

-- space and name of a type or of a reference, which stand in the same columns of both tables
pub record HasRowId (image : List ℕ) (table row : ℕ) (id : TypeId) : Type 0 where
  pub space : HasText (strings_of image) (cell (tables_of image) table row 2) id.space
  pub name : HasText (strings_of image) (cell (tables_of image) table row 1) id.name

-- the names of some rows, those of the last row first
abbrev pub AreIds : List ℕ → ℕ → List ℕ → List TypeId → Type 0
AreIds image table [] path = path ≡ []
AreIds image table (row ∷ rows) path = (before : List TypeId) × (id : TypeId) × AreIds image table rows before × HasRowId image table row id × (path ≡ before ++ id ∷ [])

-- where a path begins, by what the scope of its outermost reference names
abbrev pub scope_in : Option (ℕ × ℕ) → Scope
scope_in None = Here
scope_in (Some named) = if named.0 == 0x23 then Extern (named.1 - 1) else Here

-- the same, by its outermost row
abbrev pub scope_of : List ℕ → (table row : ℕ) → Scope
scope_of image table row = if table == 0x02 then Here else scope_in (unpacked ResolutionScope (type_ref_scope image row))
