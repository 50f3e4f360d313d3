-- What stands in an image whose rows meet the demands I8 to I23 (II.22).
use Rattle.std.specs.Prelude.{ℕ, ◌^◌, ◌≤◌, List, Contains, length}
use Rattle.body_codec.specs.Names.{NameMap}
use Rattle.image_model.specs.Faults.{RowRule, Holds, HasTables}
use Rattle.image_model.specs.Namings.{AreNamings}
use Rattle.image_model.specs.Rows.{HasRow, fields_of, methods_of, params_of, events_of, properties_of}
use Rattle.row_demands.specs.Structured.{MeetStructure}

-- I1 to I23 hold of an image of at most 2^26 bytes
pub record MeetsRules (image : List ℕ) (names : NameMap) : Type 0 where
  pub short : length image ≤ 2 ^ 26
  pub tables : HasTables image
  pub named : AreNamings image names
  pub rows : (rule : RowRule) → Holds image names rule

-- its tables are in order, and the members of types and methods are rows that are there
pub record Stands (image : List ℕ) : Type 0 where
  pub structure : MeetStructure image
  pub fields : (type row : ℕ) → HasRow image 0x02 type → Contains (fields_of image type) row → HasRow image 0x04 row
  pub methods : (type row : ℕ) → HasRow image 0x02 type → Contains (methods_of image type) row → HasRow image 0x06 row
  pub params : (method row : ℕ) → HasRow image 0x06 method → Contains (params_of image method) row → HasRow image 0x08 row
  pub events : (type row : ℕ) → HasRow image 0x02 type → Contains (events_of image type) row → HasRow image 0x14 row
  pub properties : (type row : ℕ) → HasRow image 0x02 type → Contains (properties_of image type) row → HasRow image 0x17 row
