-- Which rows of InterfaceImpl name a type that no earlier row of the same class names (II.22.23).
use Rattle.std.specs.Prelude.{◌≡◌, ◌↔◌, ℕ, ◌<◌, Bool, true, false, List, slice_index, slice_index_or}
use Rattle.type_terms.specs.declared.term.Owner.{Owner}
use Rattle.body_codec.specs.Names.{NameMap}
use Rattle.image_model.specs.Columns.{interface_class, interface_type}
use Rattle.image_model.specs.Namings.{AreNamings}
use Rattle.image_model.specs.Reading.{OwnerIs}
use Rattle.image_model.specs.Rows.{HasRow}

-- two rows name one type
abbrev pub NameOneType : List ℕ → NameMap → (earlier row : ℕ) → Type 0
NameOneType image names earlier row =
    (owner : Owner) × OwnerIs image names (interface_type image earlier) owner × OwnerIs image names (interface_type image row) owner

-- an earlier row of the same class names the type that a row names
abbrev pub CameBefore : List ℕ → NameMap → (earlier row : ℕ) → Type 0
CameBefore image names earlier row =
    (0 < earlier) × (earlier < row) × (interface_class image earlier ≡ interface_class image row) × NameOneType image names earlier row

-- the rows are marked whose type didn't come before
pub record AreFreshBy (image : List ℕ) (names : NameMap) (fresh : List Bool) : Type 0 where
  pub marked : (row earlier : ℕ) → HasRow image 0x09 row → slice_index_or fresh row false ≡ true → CameBefore image names earlier row → ⊥
  pub others : (row : ℕ) → HasRow image 0x09 row → slice_index_or fresh row false ≡ false → (earlier : ℕ) × CameBefore image names earlier row

-- whatever tells what tokens name
abbrev pub AreFresh : List ℕ → List Bool → Type 0
AreFresh image fresh = (names : NameMap) → AreNamings image names → AreFreshBy image names fresh

-- numbers for the rows: two have one number exactly where they name one type
abbrev pub NumberTypes : List ℕ → List ℕ → Type 0
NumberTypes image numbers =
    (names : NameMap) (row other : ℕ) → AreNamings image names → HasRow image 0x09 row → HasRow image 0x09 other
    → (slice_index numbers row ≡ slice_index numbers other) ↔ NameOneType image names row other
