-- What is kept of the rows that name types: each row of TypeDef and of TypeRef (II.22.37, II.22.38), and each row of TypeSpec that is in
-- use (II.22.39).
use Rattle.std.specs.Prelude.{◌≡◌, ℕ, ◌^◌, ◌<◌, List, Option, Some, None}
use Rattle.type_terms.specs.declared.term.Owner.{Owner}
use Rattle.image_model.specs.Naming.{RowOwner}
use Rattle.image_model.specs.Used.{IsUsed}
use Rattle.image_source.specs.Names.{names_of, owner_of_row}
use Rattle.kept_names.specs.declared.names.KeptNames.{KeptNames}

-- What these rows are by what tokens name is kept of them, and what is kept of a row is what it is. A row's number has four bytes.
pub record KeepsOwners (image : List ℕ) (names : ℕ → Option Owner) (kept : KeptNames) : Type 0 where
  pub owners : (table row : ℕ) (owner : Owner) → RowOwner image names table row owner → (table ≡ 0x1B → IsUsed image 0x1B row) → owner_of_row kept table row ≡ Some owner
  pub true_owners : (table row : ℕ) (owner : Owner) → row < 2 ^ 32 → owner_of_row kept table row ≡ Some owner → RowOwner image names table row owner

-- nothing is kept of methods, fields, locals and texts
pub record KeepsNoMembers (kept : KeptNames) : Type 0 where
  pub methods : (token : ℕ) → (names_of kept).methods token ≡ None
  pub fields : (token : ℕ) → (names_of kept).fields token ≡ None
  pub locals : (token : ℕ) → (names_of kept).locals token ≡ None
  pub texts : (token : ℕ) → (names_of kept).texts token ≡ None
