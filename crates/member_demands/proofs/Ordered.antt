-- What the order of tables and of runs says to those who look rows up.
use Rattle.std.proofs.Common.{◌≡◌, ℕ, ◌-◌, ◌<◌, ◌≤◌, inl, inr, List, [], ◌∷◌, map, refl, subst, arith}
use Rattle.metadata_tables.specs.Order.{sort_columns, IsNotAfter}
use Rattle.metadata_tables.specs.Schema.{schema}
use Rattle.metadata_tables.specs.Stream.{cell, column_of}
use Rattle.metadata_tables.specs.declared.schema.Column.TheVariants.{Row}
use Rattle.image_model.specs.Cells.{IsIndex}
use Rattle.image_model.specs.Columns.{event_map_parent, property_map_parent}
use Rattle.image_model.specs.Rows.{count_of, HasRow}
use Rattle.image_model.specs.Streams.{tables_of}
use Rattle.image_model.specs.Structure.{IsSorted, Rises, IsFirstWith}
use Rattle.row_demands.specs.Members.{run_begin}
use Rattle.row_demands.specs.Structured.{MeetStructure}
use Rattle.row_demands.proofs.Holding.{holds_behind}
use Rattle.row_demands.proofs.RunParts.{events_rise, properties_rise, methods_rise}
use Rattle.row_demands.proofs.Indexed.{columns_of_event_maps, columns_of_property_maps}
use Rattle.row_groups.specs.Ranges.{Ascends}

not_less : (x y : ℕ) (xs ys : List ℕ) → IsNotAfter (x ∷ xs) (y ∷ ys) → x ≤ y
not_less x y xs ys (inl less) = omega arith
not_less x y xs ys (inr same) = let e = same.0 in omega arith

pub ascends : (image : List ℕ) (table column : ℕ) (rest : List ℕ) → sort_columns table ≡ column ∷ rest → ((table row : ℕ) → IsSorted image table row) → Ascends image table column
ascends image table column rest e order row more within =
    let f : ℕ → ℕ → ℕ = cell (tables_of image) table in
    not_less (f (row - 1) column) (f row column) (map (f (row - 1)) rest) (map (f row) rest)
    (subst (λ columns. IsNotAfter (map (cell (tables_of image) table (row - 1)) columns) (map (cell (tables_of image) table row) columns)) e (order table row more (omega arith, within)))

semantics_columns : sort_columns 0x18 ≡ 2 ∷ []
unfolding sort_columns
semantics_columns = refl

generics_columns : sort_columns 0x2A ≡ 2 ∷ 0 ∷ []
unfolding sort_columns
generics_columns = refl

layouts_columns : sort_columns 0x0F ≡ 2 ∷ []
unfolding sort_columns
layouts_columns = refl

constants_columns : sort_columns 0x0B ≡ 2 ∷ []
unfolding sort_columns
constants_columns = refl

offsets_columns : sort_columns 0x10 ≡ 1 ∷ []
unfolding sort_columns
offsets_columns = refl

data_columns : sort_columns 0x1D ≡ 1 ∷ []
unfolding sort_columns
data_columns = refl

event_parent : column_of 0x12 0 ≡ Row 0x02
unfolding schema
event_parent = refl

property_parent : column_of 0x15 0 ≡ Row 0x02
unfolding schema
property_parent = refl

module _ (image : List ℕ) (meets : MeetStructure image) where
  pub semantics_ascend : Ascends image 0x18 2
  semantics_ascend = ascends image 0x18 2 [] semantics_columns meets.order

  pub generics_ascend : Ascends image 0x2A 2
  generics_ascend = ascends image 0x2A 2 (0 ∷ []) generics_columns meets.order

  pub layouts_ascend : Ascends image 0x0F 2
  layouts_ascend = ascends image 0x0F 2 [] layouts_columns meets.order

  pub constants_ascend : Ascends image 0x0B 2
  constants_ascend = ascends image 0x0B 2 [] constants_columns meets.order

  pub offsets_ascend : Ascends image 0x10 1
  offsets_ascend = ascends image 0x10 1 [] offsets_columns meets.order

  pub data_ascend : Ascends image 0x1D 1
  data_ascend = ascends image 0x1D 1 [] data_columns meets.order

  pub event_maps_rise : (row : ℕ) → HasRow image 0x12 row → Rises (run_begin image 0x12 1 0x14) row
  event_maps_rise = events_rise image (λ row there. meets.runs 0x12 row)

  pub property_maps_rise : (row : ℕ) → HasRow image 0x15 row → Rises (run_begin image 0x15 1 0x17) row
  property_maps_rise = properties_rise image (λ row there. meets.runs 0x15 row)

  pub type_methods_rise : (row : ℕ) → HasRow image 0x02 row → Rises (run_begin image 0x02 5 0x06) row
  type_methods_rise = methods_rise image (λ row there. meets.runs 0x02 row)

  pub event_maps_there : (row : ℕ) → HasRow image 0x14 row → 0 < count_of image 0x12
  event_maps_there row there = let l = (meets.runs 0x14 row).event_in_map refl there in let a = l.1.0 in let b = l.1.1 in omega arith

  pub first_event_before : (row : ℕ) → HasRow image 0x14 row → run_begin image 0x12 1 0x14 1 ≤ row
  first_event_before row there =
      (holds_behind image 0x12 1 0x14 row event_maps_rise there (event_maps_there row there)).1 ((meets.runs 0x14 row).event_in_map refl there)

  pub property_maps_there : (row : ℕ) → HasRow image 0x17 row → 0 < count_of image 0x15
  property_maps_there row there = let l = (meets.runs 0x17 row).property_in_map refl there in let a = l.1.0 in let b = l.1.1 in omega arith

  pub first_property_before : (row : ℕ) → HasRow image 0x17 row → run_begin image 0x15 1 0x17 1 ≤ row
  first_property_before row there =
      (holds_behind image 0x15 1 0x17 row property_maps_rise there (property_maps_there row there)).1 ((meets.runs 0x17 row).property_in_map refl there)

  pub event_map_first : (map : ℕ) → HasRow image 0x12 map → IsFirstWith (event_map_parent image) map
  event_map_first map there = (meets.runs 0x12 map).one_event_map refl there

  pub property_map_first : (map : ℕ) → HasRow image 0x15 map → IsFirstWith (property_map_parent image) map
  property_map_first map there = (meets.runs 0x15 map).one_property_map refl there

  pub event_type_there : (map : ℕ) → HasRow image 0x12 map → HasRow image 0x02 (event_map_parent image map)
  event_type_there map there =
      subst (λ column. IsIndex image column (cell (tables_of image) 0x12 map 0)) event_parent (meets.indexes 0x12 map there 0 (let l = columns_of_event_maps in omega arith))

  pub property_type_there : (map : ℕ) → HasRow image 0x15 map → HasRow image 0x02 (property_map_parent image map)
  property_type_there map there =
      subst (λ column. IsIndex image column (cell (tables_of image) 0x15 map 0)) property_parent (meets.indexes 0x15 map there 0 (let l = columns_of_property_maps in omega arith))
