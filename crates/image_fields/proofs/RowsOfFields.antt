-- The rows of FieldLayout and FieldRVA of a field.
use Rattle.std.proofs.Common.{◌≡◌, ℕ, List, sym, ◌∙◌, ap}
use Rattle.std.specs.List.{range_with_len}
use Rattle.image_model.specs.Columns.{offset_field, data_field}
use Rattle.image_model.specs.Members.{offsets_of, data_of}
use Rattle.image_model.specs.Rows.{rows_with}
use Rattle.row_groups.specs.Ranges.{cell_of}

pub offset_rows : (image : List ℕ) (row value first count : ℕ) → value ≡ row → rows_with image 0x10 (cell_of 0x10 1) value ≡ range_with_len first count → offsets_of image row ≡ range_with_len first count
offset_rows image row value first count e rows = ap (rows_with image 0x10 offset_field) (sym e) ∙ rows

pub data_rows : (image : List ℕ) (row value first count : ℕ) → value ≡ row → rows_with image 0x1D (cell_of 0x1D 1) value ≡ range_with_len first count → data_of image row ≡ range_with_len first count
data_rows image row value first count e rows = ap (rows_with image 0x1D data_field) (sym e) ∙ rows
