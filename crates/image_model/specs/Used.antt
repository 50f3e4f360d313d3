-- Which reference rows are used (II.22.25, II.22.29, II.22.36, II.22.38, II.22.39): those that a row of another table, a used
-- reference row, a signature of either or a body names. A reference row that nothing uses gives nothing.
use Rattle.std.specs.Prelude.{◌≡◌, ℕ, ◌<◌, ◌⊎◌, Bool, List, length}
use Rattle.metadata_tables.specs.Schema.{columns_of}
use Rattle.metadata_tables.specs.Stream.{cell, column_of}
use Rattle.metadata_tables.specs.declared.coded.Coded.{Coded}
use Rattle.metadata_tables.specs.declared.schema.Column.TheVariants.{Tagged}
use Rattle.image_model.specs.Streams.{tables_of}
use Rattle.image_model.specs.Rows.{HasRow, Names}
use Rattle.image_model.specs.Naming.{IsToken}
use Rattle.image_model.specs.Tokens.{SignatureNames}
use Rattle.image_model.specs.Bodies.{BodyNames}

-- the tables of references: TypeRef, MemberRef, StandAloneSig, TypeSpec and MethodSpec
abbrev pub IsReference : ℕ → Type 0
IsReference table = (table ≡ 0x01) ⊎ (table ≡ 0x0A) ⊎ (table ≡ 0x11) ⊎ (table ≡ 0x1B) ⊎ (table ≡ 0x2B)

-- a coded index of a row names another row
pub record CellNames (image : List ℕ) (table row named_table named : ℕ) : Type 0 where
  pub column : ℕ
  pub kind : Coded
  pub nil : Bool
  pub there : column < length (columns_of table)
  pub coded : column_of table column ≡ Tagged kind nil
  pub names : Names kind (cell (tables_of image) table row column) named_table named

-- a row names another by a coded index or in its signature
pub data RowNames (image : List ℕ) : (table row named_table named : ℕ) → Type 0 where
  by_cell : {table row named_table named : ℕ} → CellNames image table row named_table named → RowNames image table row named_table named
  by_signature : {table row token named_table named : ℕ} → SignatureNames image table row token → IsToken token named_table named
      → RowNames image table row named_table named

-- a reference row is used
pub data IsUsed (image : List ℕ) : (table row : ℕ) → Type 0 where
  by_row : {from_table from table row : ℕ} → (IsReference from_table → ⊥) → HasRow image from_table from
      → RowNames image from_table from table row → IsReference table → HasRow image table row → IsUsed image table row
  by_reference : {from_table from table row : ℕ} → IsUsed image from_table from → RowNames image from_table from table row
      → IsReference table → HasRow image table row → IsUsed image table row
  by_body : {method token table row : ℕ} → HasRow image 0x06 method → BodyNames image method token → IsToken token table row
      → IsReference table → HasRow image table row → IsUsed image table row
