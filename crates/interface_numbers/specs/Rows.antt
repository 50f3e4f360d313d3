-- The rows that rows of InterfaceImpl name as types (II.22.23), and when they surely name one type.
use Rattle.std.specs.Prelude.{◌≡◌, ℕ, ◌+◌, ◌*◌, ◌^◌, ◌<◌, ◌⊎◌, ◌==◌, if◌then◌else◌, List}
use Rattle.image_model.specs.Columns.{interface_type, type_spec_signature}
use Rattle.image_model.specs.Rows.{HasRow, Names}
use Rattle.metadata_tables.specs.declared.coded.Coded.TheVariants.{TypeDefOrRef}

-- a row names a row of TypeDef, TypeRef or TypeSpec; those of the first two are so few that each has a token
pub record NamesType (image : List ℕ) (row table type : ℕ) : Type 0 where
  pub names : Names TypeDefOrRef (interface_type image row) table type
  pub there : HasRow image table type
  pub kind : (table ≡ 0x02) ⊎ (table ≡ 0x01) ⊎ (table ≡ 0x1B)
  pub few : (table ≡ 0x1B → ⊥) → type < 2 ^ 24

-- each does
abbrev pub NameTypes : List ℕ → Type 0
NameTypes image = (row : ℕ) → HasRow image 0x09 row → (table type : ℕ) × NamesType image row table type

-- a number for a signature, and for what else names a type
abbrev pub key_by : List ℕ → (row table type : ℕ) → ℕ
key_by image row table type = if table == 0x1B then type_spec_signature image type * 2 + 1 else interface_type image row * 2

abbrev pub HasKey : List ℕ → (row key : ℕ) → Type 0
HasKey image row key = (table type : ℕ) × NamesType image row table type × (key ≡ key_by image row table type)
