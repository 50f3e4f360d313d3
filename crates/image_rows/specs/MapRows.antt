-- The rows of EventMap and PropertyMap: each type that has events, or properties, and where their run begins (ECMA-335 II.22.12,
-- II.22.35).
use Rattle.std.specs.Prelude.{ℕ, ◌+◌, ◌==◌, if◌then◌else◌, List, [], ◌∷◌, ◌++◌, length}
use Rattle.metadata_tables.specs.Indexes.{run_cell}
use Rattle.image_members.specs.Places.{class_properties, class_events}
use Rattle.image_members.specs.declared.classes.Class.{Class}

-- the row of a type, and the cell where its run of so many items begins, if there are any
abbrev pub run_rows : (row cell count : ℕ) → List (List ℕ)
run_rows row cell count = if count == 0 then [] else ((row ∷ cell ∷ []) ∷ [])

-- Those of types whose rows of TypeDef follow one another, from this row on. The runs follow one another too, from `first`
-- on; there are `all` items.
abbrev pub map_rows : (Class → ℕ) → (all row first : ℕ) → List Class → List (List ℕ)
map_rows count all row first [] = []
map_rows count all row first (c ∷ cs) = run_rows row (run_cell all first) (count c) ++ map_rows count all (row + 1) (first + count c) cs

abbrev pub event_count : Class → ℕ
event_count c = length (class_events c)

abbrev pub property_count : Class → ℕ
property_count c = length (class_properties c)
