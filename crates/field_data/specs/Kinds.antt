-- What decides how many bytes a value of a type has in data (II.16.3).
use Rattle.std.specs.Prelude.{◌≡◌, ◌↔◌, ℕ, ◌<◌, List, Option, Some, Contains}
use Rattle.type_terms.specs.declared.name.Scope.TheVariants.{Here}
use Rattle.type_terms.specs.declared.name.TypeId.{TypeId}
use Rattle.type_terms.specs.declared.name.TypeName.{TypeName}
use Rattle.type_terms.specs.declared.term.Owner.{Owner}
use Rattle.type_terms.specs.declared.term.Owner.TheVariants as owner
use Rattle.type_terms.specs.declared.term.SigType.{SigType}
use Rattle.image_model.specs.Columns.{layout_size}
use Rattle.image_model.specs.Members.{HasDataSize, layouts_of}
use Rattle.image_model.specs.Naming.{HasPath}
use Rattle.image_model.specs.Rows.{HasRow}
use Rattle.field_data.specs.declared.kinds.DataKind.{DataKind}
use Rattle.field_data.specs.declared.kinds.DataKind.TheVariants as kind

-- a type of the image has this name, and a layout with this class size, which is above 0
pub record HasLayoutSize (image : List ℕ) (name : TypeName) (size : ℕ) : Type 0 where
  pub path : List TypeId
  pub type : ℕ
  pub layout : ℕ
  pub is : name ≡ record { scope = Here; path = path }
  pub there : HasRow image 0x02 type
  pub named : HasPath image type path
  pub has : Contains (layouts_of image type) layout
  pub size_is : layout_size image layout ≡ size
  pub some : 0 < size

-- a type has this width alone, or the sizes of the value type that a token names, or none
abbrev pub IsOfKind : List ℕ → (ℕ → Option Owner) → SigType → DataKind → Type 0
IsOfKind image owners t (kind.Bytes width) = (size : ℕ) → HasDataSize image t size ↔ (size ≡ width)
IsOfKind image owners t (kind.Value token) =
    (name : TypeName) × (owners token ≡ Some (owner.Name name)) × ((size : ℕ) → HasDataSize image t size ↔ HasLayoutSize image name size)
IsOfKind image owners t kind.Sizeless = (size : ℕ) → HasDataSize image t size → ⊥

-- a type has a layout with this class size, which is above 0
abbrev pub HasClassSize : List ℕ → (type size : ℕ) → Type 0
HasClassSize image type size = (layout : ℕ) × Contains (layouts_of image type) layout × (layout_size image layout ≡ size) × (0 < size)
