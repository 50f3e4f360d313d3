-- Which tables are sorted, and by what (ECMA-335 II.22, "sorted using").
use Rattle.std.specs.Prelude.{◌≡◌, ℕ, ◌-◌, ◌<◌, ◌≤◌, ◌⊎◌, ◌==◌, List, [], ◌∷◌, map, if◌then◌else◌}
use Rattle.metadata_tables.specs.Stream.{cell, row_count}

-- the columns that a table is sorted by, the first key first
unfoldable pub sort_columns : ℕ → List ℕ
sort_columns table =
    -- InterfaceImpl by Class
    if table == 0x09 then 0 ∷ []
    -- Constant by Parent
    else if table == 0x0B then 2 ∷ []
    -- CustomAttribute by Parent
    else if table == 0x0C then 0 ∷ []
    -- ClassLayout by Parent
    else if table == 0x0F then 2 ∷ []
    -- FieldLayout by Field
    else if table == 0x10 then 1 ∷ []
    -- MethodSemantics by Association
    else if table == 0x18 then 2 ∷ []
    -- MethodImpl by Class
    else if table == 0x19 then 0 ∷ []
    -- FieldRVA by Field
    else if table == 0x1D then 1 ∷ []
    -- NestedClass by NestedClass
    else if table == 0x29 then 0 ∷ []
    -- GenericParam by Owner, then by Number
    else if table == 0x2A then 2 ∷ 0 ∷ []
    -- GenericParamConstraint by Owner
    else if table == 0x2C then 0 ∷ []
    else []

-- the cells of a row that its table is sorted by
abbrev pub sort_key : List ℕ → ℕ → ℕ → List ℕ
sort_key stream table row = map (cell stream table row) (sort_columns table)

-- one key doesn't come after another: at the first place where they differ it has the lower number
abbrev pub IsNotAfter : List ℕ → List ℕ → Type 0
IsNotAfter (x ∷ xs) (y ∷ ys) = (x < y) ⊎ ((x ≡ y) × IsNotAfter xs ys)
IsNotAfter [] ys = Unit {0}
IsNotAfter (x ∷ xs) [] = Unit {0}

-- the row before this one doesn't come after it
abbrev pub IsInOrder : List ℕ → ℕ → ℕ → Type 0
IsInOrder stream table row = IsNotAfter (sort_key stream table (row - 1)) (sort_key stream table row)

-- each row of a table but the first is in order
abbrev pub IsSortedTable : List ℕ → ℕ → Type 0
IsSortedTable stream table = (row : ℕ) → 1 < row → row ≤ row_count stream table → IsInOrder stream table row
