-- How many bytes a value of a field's type has in data (II.16.3, II.22.18), and what is known of an image before that is asked.
use Rattle.std.specs.Prelude.{◌≡◌, ◌↔◌, ℕ, ◌<◌, ◌≤◌, ◌/◌, ◌%◌, ◌^◌, ◌==◌, ◌&&◌, nat_lt, nat_le, Bool, if◌then◌else◌, List, Option, Some, None, All, length}
use Rattle.type_terms.specs.declared.name.Scope.TheVariants.{Here}
use Rattle.type_terms.specs.declared.name.TypeId.{TypeId}
use Rattle.type_terms.specs.declared.name.TypeName.{TypeName}
use Rattle.type_terms.specs.declared.term.SigType.{SigType}
use Rattle.body_codec.specs.Names.{NameMap}
use Rattle.image_model.specs.Members.{AreDistinct, HasData, HasDataSize, data_of, layouts_of}
use Rattle.image_model.specs.Naming.{HasPath}
use Rattle.image_model.specs.Namings.{AreNamings}
use Rattle.image_model.specs.Rows.{count_of, HasRow}
use Rattle.image_model.specs.Structure.{HasScopes}
use Rattle.image_model.specs.Terms.{FieldHas, HasSignatures}
use Rattle.name_numbers.specs.declared.numbering.Named.{Named}
use Rattle.row_demands.specs.Structured.{MeetStructure}
use Rattle.type_names.specs.Forest.{ref_node}
use Rattle.type_names.specs.Numbers.{number_of}
use Rattle.attribute_demands.specs.Judging.{ByNames}

-- I8 to I15 hold of an image that has names
pub record CanMeasure (image : List ℕ) : Type 0 where
  pub meets : MeetStructure image
  pub scopes : (table row : ℕ) → HasScopes image table row
  pub named : (names : NameMap) × AreNamings image names
  pub signatures : ByNames image (λ names. (table row : ℕ) → HasSignatures image names table row)
  pub distinct : ByNames image (λ names. (table row : ℕ) → AreDistinct image names table row)

-- no type has two layouts, as I16 asks it
abbrev pub HaveOneLayout : List ℕ → Type 0
HaveOneLayout image = (type : ℕ) → HasRow image 0x02 type → length (layouts_of image type) ≤ 1

-- a type of the image has this name
pub record IsCalled (image : List ℕ) (name : TypeName) (type : ℕ) : Type 0 where
  pub path : List TypeId
  pub is : name ≡ record { scope = Here; path = path }
  pub there : HasRow image 0x02 type
  pub named : HasPath image type path

-- the one type of the image that has this name, or 0 where there is none
abbrev pub IsOneCalled : List ℕ → TypeName → ℕ → Type 0
IsOneCalled image name row = (type : ℕ) → IsCalled image name type ↔ ((type ≡ row) × (0 < type))

-- the one size of a type in data, or 0 where there is none
abbrev pub IsSize : List ℕ → SigType → ℕ → Type 0
IsSize image t found = (size : ℕ) → HasDataSize image t size ↔ ((size ≡ found) × (0 < size))

-- the one size of the type of a field
abbrev pub IsFieldSize : List ℕ → NameMap → (field found : ℕ) → Type 0
IsFieldSize image names field found = (t : SigType) → FieldHas image names field t → IsSize image t found

-- the data of a field is there, by the names of the image
abbrev pub HasDataByNames : List ℕ → ℕ → Type 0
HasDataByNames image field = ByNames image (λ names. All (HasData image names field) (data_of image field))

-- ---- the row of a type that a token names, by the numbers of types and references: the contracts of the private steps

abbrev pub is_row : List ℕ → (table row : ℕ) → Bool
is_row image table row = nat_lt 0 row && nat_le row (count_of image table)

-- the number of a reference that is there
abbrev pub reference_number : List ℕ → List Named → ℕ → Option ℕ
reference_number image named row = if is_row image 0x01 row then number_of named (ref_node image row) else None

-- the number of a type or a reference
unfoldable pub token_number : List ℕ → List Named → ℕ → Option ℕ
token_number image named token =
    if token / 2 ^ 24 == 0x02 then Some (token % 2 ^ 24)
    else if token / 2 ^ 24 == 0x01 then reference_number image named (token % 2 ^ 24)
    else None

-- a number that is one of so many types, or 0
abbrev pub type_or_none : ℕ → Option ℕ → ℕ
type_or_none types None = 0
type_or_none types (Some number) = if nat_le number types then number else 0

abbrev pub type_of_token : List ℕ → List Named → ℕ → ℕ
type_of_token image named token = type_or_none (count_of image 0x02) (token_number image named token)
