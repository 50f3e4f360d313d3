-- What is kept of an image's tokens: all that its rows and bodies name (II.22, III.1.9), as what it is.
use Rattle.std.specs.Prelude.{◌≡◌, ℕ, ◌^◌, ◌<◌, List, Some}
use Rattle.type_terms.specs.declared.reference.FieldRef.{FieldRef}
use Rattle.type_terms.specs.declared.reference.MethodRef.{MethodRef}
use Rattle.type_terms.specs.declared.term.Owner.{Owner}
use Rattle.type_terms.specs.declared.term.SigType.{SigType}
use Rattle.body_codec.specs.Names.{NameMap}
use Rattle.image_model.specs.Bodies.{BodyNames}
use Rattle.image_model.specs.Naming.{RowOwner, IsToken}
use Rattle.image_model.specs.Rows.{HasRow}
use Rattle.image_model.specs.Used.{IsReference, IsUsed, RowNames}
use Rattle.image_source.specs.Names.{names_of, owner_of_row}
use Rattle.kept_names.specs.declared.names.KeptNames.{KeptNames}

-- a row that isn't a reference, a reference in use or a body names a row of a table
pub data IsNamed (image : List ℕ) : (table row : ℕ) → Type 0 where
  by_row : {from_table from table row : ℕ} → (IsReference from_table → ⊥) → HasRow image from_table from → RowNames image from_table from table row → IsNamed image table row
  by_reference : {from_table from table row : ℕ} → IsUsed image from_table from → RowNames image from_table from table row → IsNamed image table row
  by_body : {method token table row : ℕ} → HasRow image 0x06 method → BodyNames image method token → IsToken token table row → IsNamed image table row

-- what is named is kept, and what is kept is so; a row's number has four bytes
pub record Keeps (image : List ℕ) (names : NameMap) (kept : KeptNames) : Type 0 where
  pub owners : (table row : ℕ) (owner : Owner) → IsNamed image table row → RowOwner image names.owners table row owner → owner_of_row kept table row ≡ Some owner
  pub true_owners : (table row : ℕ) (owner : Owner) → row < 2 ^ 32 → owner_of_row kept table row ≡ Some owner → RowOwner image names.owners table row owner
  pub methods : (token table row : ℕ) (method : MethodRef) → IsNamed image table row → IsToken token table row → names.methods token ≡ Some method → (names_of kept).methods token ≡ Some method
  pub true_methods : (token : ℕ) (method : MethodRef) → (names_of kept).methods token ≡ Some method → names.methods token ≡ Some method
  pub fields : (token table row : ℕ) (field : FieldRef) → IsNamed image table row → IsToken token table row → names.fields token ≡ Some field → (names_of kept).fields token ≡ Some field
  pub true_fields : (token : ℕ) (field : FieldRef) → (names_of kept).fields token ≡ Some field → names.fields token ≡ Some field
  pub locals : (token table row : ℕ) (types : List SigType) → IsNamed image table row → IsToken token table row → names.locals token ≡ Some types → (names_of kept).locals token ≡ Some types
  pub true_locals : (token : ℕ) (types : List SigType) → (names_of kept).locals token ≡ Some types → names.locals token ≡ Some types
  -- a body alone names user strings
  pub texts : (method token : ℕ) (units : List ℕ) → HasRow image 0x06 method → BodyNames image method token → names.texts token ≡ Some units → (names_of kept).texts token ≡ Some units
  pub true_texts : (token : ℕ) (units : List ℕ) → (names_of kept).texts token ≡ Some units → names.texts token ≡ Some units
