-- The rows of fields while they are added (ECMA-335 II.22.15, II.22.16, II.22.18).
use Rattle.std.specs.Prelude.{◌≡◌, ℕ, ◌^◌, ◌<◌, List, length}
use Rattle.std.specs.List.{AllZip, enumerate_from, flat_map}
use Rattle.assembly_tree.specs.declared.members.Field.{Field}
use Rattle.metadata_tables.specs.Encoding.{rows_of}
use Rattle.image_tokens.specs.declared.references.References.{References}
use Rattle.image_members.specs.DataRows.{all_data, IsDataRow}
use Rattle.image_rows.specs.FieldRows.{IsFieldAt, IsFieldRow, offset_rows}
use Rattle.image_rows.specs.Filled.{HoldsItems}
use Rattle.image_members.specs.Pushing.{Tables}
use Rattle.image_tables.specs.Parts.{KeepsOtherParts, LacksFrom}

-- the rows of these fields can be added
pub record CanFillFields (fields : List Field) (r : References) (tables : Tables) : Type 0 where
  pub declared : AllZip (IsFieldAt r) r.declared.fields fields
  pub few : length fields < 2 ^ 23
  pub lacks : LacksFrom 3 tables

-- the rows of these fields have been added, and their data
pub record FillsFields (fields : List Field) (r : References) (code : List ℕ) (from to : Tables) : Type 0 where
  pub rows : HoldsItems 0x04 IsFieldRow fields r to
  pub offsets : rows_of to 0x10 ≡ flat_map offset_rows (enumerate_from 1 fields)
  pub contents : AllZip (IsDataRow code) (rows_of to 0x1D) (all_data 1 fields)
  pub others : KeepsOtherParts 3 from to
