-- The rows of FieldRVA, and the data of fields in the code (ECMA-335 II.16.3, II.22.18).
use Rattle.std.specs.Prelude.{◌≡◌, ℕ, ◌+◌, ◌%◌, ◌≤◌, List, [], ◌∷◌, ◌++◌, length, sum_by, Option, None, Some}
use Rattle.std.specs.List.{AllZip, flat_map, enumerate_from}
use Rattle.assembly_tree.specs.declared.members.Field.{Field}
use Rattle.image_members.specs.Placing.{StandsIn}
use Rattle.image_members.specs.Pushing.{Tables, AddsRows}

-- the row of a field, and its data
pub record Datum : Type 0 where
  pub field : ℕ
  pub bytes : List ℕ

abbrev pub stated_data : ℕ → Option (List ℕ) → List Datum
stated_data row None = []
stated_data row (Some bytes) = record { field = row; bytes = bytes } ∷ []

abbrev pub field_data : ℕ × Field → List Datum
field_data (row, f) = stated_data row f.content

-- the data of fields whose rows follow one another, from this row on
abbrev pub all_data : ℕ → List Field → List Datum
all_data row fields = flat_map field_data (enumerate_from row fields)

-- RVA and field; the data stands there, at a multiple of 8
pub record IsDataRow (code cells : List ℕ) (d : Datum) : Type 0 where
  pub rva : ℕ
  pub are : cells ≡ rva ∷ d.field ∷ []
  pub stands : StandsIn code rva d.bytes
  pub aligned : rva % 8 ≡ 0

-- so many bytes data takes at most, with those before it that fill the code up
abbrev pub data_room : Datum → ℕ
data_room d = length d.bytes + 7

-- rows and data have been added
pub record AddsData (items : List Datum) (old new : List ℕ) (from to : Tables) : Type 0 where
  pub more : List ℕ
  pub is : new ≡ old ++ more
  pub long : length new ≤ length old + sum_by data_room items
  pub rows : List (List ℕ)
  pub adds : AddsRows 0x1D rows from to
  pub each : AllZip (IsDataRow new) rows items
