-- Laws of reading: an image reads as one assembly, has one fault, and its tree is what its rows say.
use Rattle.std.specs.Prelude.{◌≡◌, ℕ, ◌≤◌, ◌↔◌, List, Some}
use Rattle.type_terms.specs.declared.name.TypeId.{TypeId}
use Rattle.type_terms.specs.declared.term.SigType.{SigType}
use Rattle.assembly_tree.specs.DataSize.{type_at, size_in_data}
use Rattle.assembly_tree.specs.declared.assembly.Assembly.{Assembly}
use Rattle.assembly_tree.specs.declared.typedef.TypeDef.{TypeDef}
use Rattle.image_model.specs.declared.place.Place.{Place}
use Rattle.image_model.specs.Faults.{Reads, IsImageFault}
use Rattle.body_codec.specs.Names.{NameMap}
use Rattle.image_model.specs.Rows.{HasRow}
use Rattle.image_model.specs.Naming.{HasPath}
use Rattle.image_model.specs.Namings.{AreNamings}
use Rattle.image_model.specs.Members.{HasDataSize}
use Rattle.image_model.specs.Reading.{IsType}

-- an image reads as one assembly at most, and then has no fault
pub record OneReading : Type 0 where
  pub one : (image : List ℕ) (a b : Assembly) → Reads image a → Reads image b → a ≡ b
  pub faultless : (image : List ℕ) (a : Assembly) (rule : ℕ) (at : Place) → Reads image a → IsImageFault image rule at → ⊥

-- an image has one first fault at most
abbrev pub OneFault : Type 0
OneFault =
    (image : List ℕ) (rule other : ℕ) (at there : Place) → IsImageFault image rule at → IsImageFault image other there
    → (rule ≡ other) × (at ≡ there)

-- the tokens of an image name one thing each
abbrev pub OneNaming : Type 0
OneNaming =
    (image : List ℕ) (names others : NameMap) → AreNamings image names → AreNamings image others → names ≡ others

-- the tree of an assembly holds, at the path of each type but `<Module>`, what the type's row gives, and nothing else
pub record HoldsTypes (image : List ℕ) (names : NameMap) (a : Assembly) : Type 0 where
  pub has : (row : ℕ) (path : List TypeId) → HasPath image row path → HasRow image 0x02 row → 2 ≤ row → (t : TypeDef) × (type_at a.types path ≡ Some t) × IsType image names row t
  pub rows : (path : List TypeId) (t : TypeDef) → type_at a.types path ≡ Some t
      → (row : ℕ) × HasRow image 0x02 row × (2 ≤ row) × HasPath image row path × IsType image names row t

abbrev pub TreeHoldsTypes : Type 0
TreeHoldsTypes = (image : List ℕ) (a : Assembly) (h : Reads image a) → HoldsTypes image h.names a

-- sizes in data are those that the tree states
abbrev pub OneDataSize : Type 0
OneDataSize =
    (image : List ℕ) (a : Assembly) → Reads image a → (t : SigType) (size : ℕ) → HasDataSize image t size ↔ (size_in_data a t ≡ Some size)
