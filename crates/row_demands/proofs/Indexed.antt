-- What indexes in their ranges say of runs and of parents.
use Rattle.std.proofs.Common.{◌≡◌, ℕ, ◌+◌, ◌<◌, ◌≤◌, List, length, refl, subst, arith}
use Rattle.metadata_tables.specs.Schema.{schema, columns_of}
use Rattle.metadata_tables.specs.Stream.{cell, column_of}
use Rattle.metadata_tables.specs.declared.schema.Column.TheVariants.{Row, Run}
use Rattle.image_model.specs.Streams.{tables_of}
use Rattle.image_model.specs.Rows.{count_of, HasRow}
use Rattle.image_model.specs.Cells.{HasIndexes, IsIndex}
use Rattle.row_demands.specs.Members.{run_begin}

pub columns_of_types : length (columns_of 0x02) ≡ 6
unfolding schema
columns_of_types = refl

pub columns_of_params : length (columns_of 0x08) ≡ 3
unfolding schema
columns_of_params = refl

pub columns_of_methods : length (columns_of 0x06) ≡ 6
unfolding schema
columns_of_methods = refl

pub columns_of_event_maps : length (columns_of 0x12) ≡ 2
unfolding schema
columns_of_event_maps = refl

pub columns_of_property_maps : length (columns_of 0x15) ≡ 2
unfolding schema
columns_of_property_maps = refl

params_column : column_of 0x06 5 ≡ Run 0x08
unfolding schema
params_column = refl

event_parent : column_of 0x12 0 ≡ Row 0x02
unfolding schema
event_parent = refl

property_parent : column_of 0x15 0 ≡ Row 0x02
unfolding schema
property_parent = refl

module _ (image : List ℕ) (indexes : (table row : ℕ) → HasRow image table row → HasIndexes image table row) where
  pub params_within : (row : ℕ) → HasRow image 0x06 row → run_begin image 0x06 5 0x08 row ≤ count_of image 0x08 + 1
  params_within row there =
      (subst (λ column. IsIndex image column (cell (tables_of image) 0x06 row 5)) params_column (indexes 0x06 row there 5 (let l = columns_of_methods in omega arith))).1

  pub params_begin : (row : ℕ) → HasRow image 0x06 row → 0 < run_begin image 0x06 5 0x08 row
  params_begin row there =
      (subst (λ column. IsIndex image column (cell (tables_of image) 0x06 row 5)) params_column (indexes 0x06 row there 5 (let l = columns_of_methods in omega arith))).0

  pub event_parents_within : (row : ℕ) → HasRow image 0x12 row → cell (tables_of image) 0x12 row 0 ≤ count_of image 0x02
  event_parents_within row there =
      (subst (λ column. IsIndex image column (cell (tables_of image) 0x12 row 0)) event_parent (indexes 0x12 row there 0 (let l = columns_of_event_maps in omega arith))).1

  pub property_parents_within : (row : ℕ) → HasRow image 0x15 row → cell (tables_of image) 0x15 row 0 ≤ count_of image 0x02
  property_parents_within row there =
      (subst (λ column. IsIndex image column (cell (tables_of image) 0x15 row 0)) property_parent (indexes 0x15 row there 0 (let l = columns_of_property_maps in omega arith))).1
