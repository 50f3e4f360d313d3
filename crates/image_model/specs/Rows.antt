-- The rows of an image: which there are, which run of another table belongs to a row, and which type encloses which
-- (II.22, II.22.32).
use Rattle.std.specs.Prelude.{◌≡◌, ℕ, ◌+◌, ◌-◌, ◌*◌, ◌^◌, ◌==◌, if◌then◌else◌, List, [], Some, filter, find}
use Rattle.std.specs.List.{range_with_len}
use Rattle.std.specs.Option.{option_map_or}
use Rattle.metadata_tables.specs.CodedIndex.{packed, unpacked}
use Rattle.metadata_tables.specs.Indexes.{run_row}
use Rattle.metadata_tables.specs.Stream.{row_count, IsRow}
use Rattle.metadata_tables.specs.declared.coded.Coded.{Coded}
use Rattle.image_model.specs.Streams.{tables_of}
use Rattle.image_model.specs.Columns.{type_fields, type_methods, method_params, event_map_parent, event_map_events, property_map_parent, property_map_properties, nested_class, enclosing_class}

-- how many rows a table has
abbrev pub count_of : List ℕ → ℕ → ℕ
count_of image table = row_count (tables_of image) table

-- there is such a row, counted from 1
abbrev pub HasRow : List ℕ → ℕ → ℕ → Type 0
HasRow image table row = IsRow (tables_of image) table row

-- the rows of a table, in order
unfoldable pub rows_of : List ℕ → ℕ → List ℕ
rows_of image table = range_with_len 1 (count_of image table)

-- the rows of a table in which a column holds a value, in order
unfoldable pub rows_with : List ℕ → ℕ → (List ℕ → ℕ → ℕ) → ℕ → List ℕ
rows_with image table column value = filter (λ row. column image row == value) (rows_of image table)

-- a coded index names a row of a table (II.24.2.6)
abbrev pub Names : Coded → ℕ → ℕ → ℕ → Type 0
Names kind value table row = unpacked kind value ≡ Some (table, row)

-- the coded index that names a row of a table; 0 for a table that it can't name
abbrev pub index_of : Coded → ℕ → ℕ → ℕ
index_of kind table row = option_map_or (λ value. value) (packed kind table row) 0

-- the token of a row (III.1.9)
abbrev pub token_of : ℕ → ℕ → ℕ
token_of table row = table * 2 ^ 24 + row

-- ---- runs (II.22): each begins where its row says, and ends where that of the next row begins or the table ends

-- where the run of a row begins in a table, by the cell of the row
abbrev pub run_start : List ℕ → ℕ → ℕ → ℕ
run_start image table cell = run_row (count_of image table) cell

-- where the run of a row of one table in another ends
abbrev pub run_end : List ℕ → ℕ → (ℕ → ℕ) → ℕ → ℕ → ℕ
run_end image owners start table row =
    if row == count_of image owners then count_of image table + 1 else start (row + 1)

-- the rows of a run
abbrev pub run : List ℕ → ℕ → (ℕ → ℕ) → ℕ → ℕ → List ℕ
run image owners start table row = range_with_len (start row) (run_end image owners start table row - start row)

abbrev pub first_field : List ℕ → ℕ → ℕ
first_field image type = run_start image 0x04 (type_fields image type)

abbrev pub first_method : List ℕ → ℕ → ℕ
first_method image type = run_start image 0x06 (type_methods image type)

abbrev pub first_param : List ℕ → ℕ → ℕ
first_param image method = run_start image 0x08 (method_params image method)

abbrev pub first_event : List ℕ → ℕ → ℕ
first_event image map = run_start image 0x14 (event_map_events image map)

abbrev pub first_property : List ℕ → ℕ → ℕ
first_property image map = run_start image 0x17 (property_map_properties image map)

-- the fields and methods of a type, and the params of a method
unfoldable pub fields_of : List ℕ → ℕ → List ℕ
fields_of image type = run image 0x02 (first_field image) 0x04 type

unfoldable pub methods_of : List ℕ → ℕ → List ℕ
methods_of image type = run image 0x02 (first_method image) 0x06 type

unfoldable pub params_of : List ℕ → ℕ → List ℕ
params_of image method = run image 0x06 (first_param image) 0x08 method

-- the events and properties of a row of EventMap and of PropertyMap
abbrev pub events_in : List ℕ → ℕ → List ℕ
events_in image map = run image 0x12 (first_event image) 0x14 map

abbrev pub properties_in : List ℕ → ℕ → List ℕ
properties_in image map = run image 0x15 (first_property image) 0x17 map

-- the events and properties of a type: those of its row in the map, where it has one
unfoldable pub events_of : List ℕ → ℕ → List ℕ
events_of image type =
    option_map_or (events_in image) (find (λ map. event_map_parent image map == type) (rows_of image 0x12)) []

unfoldable pub properties_of : List ℕ → ℕ → List ℕ
properties_of image type =
    option_map_or (properties_in image) (find (λ map. property_map_parent image map == type) (rows_of image 0x15)) []

-- ---- nesting (II.22.32)

-- the type that encloses a type, or 0 for a top-level type
unfoldable pub enclosing : List ℕ → ℕ → ℕ
enclosing image type =
    option_map_or (enclosing_class image) (find (λ row. nested_class image row == type) (rows_of image 0x29)) 0

-- the types from row 2 on that a type encloses, in row order; at 0 the top-level types
unfoldable pub types_in : List ℕ → ℕ → List ℕ
types_in image outer = filter (λ type. enclosing image type == outer) (range_with_len 2 (count_of image 0x02 - 1))
