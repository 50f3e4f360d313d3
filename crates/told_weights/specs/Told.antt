-- What is told of the weights of what the rows of an image name (II.22).
use Rattle.std.specs.Prelude.{◌≡◌, ℕ, ◌^◌, min, List, Some, Option}
use Rattle.type_terms.specs.declared.reference.MethodRef.{MethodRef}
use Rattle.type_terms.specs.declared.reference.MethodSig.{MethodSig}
use Rattle.type_terms.specs.declared.term.Owner.{Owner}
use Rattle.type_terms.specs.declared.term.SigType.{SigType}
use Rattle.assembly_tree.specs.Weight.{optional, owner_weight, type_weight, signature_weight, method_ref_weight, body_weight}
use Rattle.assembly_tree.specs.declared.body.Body.{Body}
use Rattle.body_codec.specs.Names.{NameMap}
use Rattle.image_model.specs.Columns.{method_rva}
use Rattle.image_model.specs.Naming.{RowOwner}
use Rattle.image_model.specs.Namings.{AreNamings}
use Rattle.image_model.specs.Reading.{BodyIs}
use Rattle.image_model.specs.Rows.{HasRow, token_of}
use Rattle.image_model.specs.Terms.{FieldHas, MethodHas, PropertyHas}
use Rattle.image_model.specs.Used.{IsReference, CellNames}

-- numbers for the weights of the type and of the method that a row is, by table and row; and of a field's type, a method's and a
-- property's signature and a method's body, by row
pub record Told : Type 0 where
  pub owner : (table row : ℕ) → ℕ
  pub method : (table row : ℕ) → ℕ
  pub field : ℕ → ℕ
  pub signature : ℕ → ℕ
  pub property : ℕ → ℕ
  pub body : ℕ → ℕ

-- a number tells a weight: where it is below 2^27 it is the weight, and else the weight is that or more too
abbrev pub Tells : (told weight : ℕ) → Type 0
Tells told weight = min told (2 ^ 27) ≡ min weight (2 ^ 27)

-- a row that isn't a reference names a row by a cell
pub record IsInCell (image : List ℕ) (table row : ℕ) : Type 0 where
  pub from_table : ℕ
  pub from : ℕ
  pub no_reference : IsReference from_table → ⊥
  pub there : HasRow image from_table from
  pub named : CellNames image from_table from table row

-- the numbers tell the weights of what the rows of an image name and have, whatever tells what its tokens name
pub record TellWeights (image : List ℕ) (told : Told) : Type 0 where
  pub owners : (names : NameMap) (table row : ℕ) (owner : Owner) → AreNamings image names → IsInCell image table row
      → RowOwner image names.owners table row owner → Tells (told.owner table row) (owner_weight owner)
  pub methods : (names : NameMap) (table row : ℕ) (method : MethodRef) → AreNamings image names → IsInCell image table row
      → names.methods (token_of table row) ≡ Some method → Tells (told.method table row) (method_ref_weight method)
  pub fields : (names : NameMap) (row : ℕ) (of : SigType) → AreNamings image names → HasRow image 0x04 row
      → FieldHas image names row of → Tells (told.field row) (type_weight of)
  pub signatures : (names : NameMap) (row : ℕ) (sig : MethodSig) → AreNamings image names → HasRow image 0x06 row
      → MethodHas image names row sig → Tells (told.signature row) (signature_weight sig)
  pub properties : (names : NameMap) (row : ℕ) (sig : MethodSig) → AreNamings image names → HasRow image 0x17 row
      → PropertyHas image names row sig → Tells (told.property row) (signature_weight sig)
  pub bodies : (names : NameMap) (row : ℕ) (body : Option Body) → AreNamings image names → HasRow image 0x06 row
      → BodyIs image names (method_rva image row) body → Tells (told.body row) (optional body_weight body)
